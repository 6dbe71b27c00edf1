use Rattle.std.proofs.Common.{sym, ◌∙◌}
use Rattle.flow_prefix.proofs.AddressLaws.{address4-whole}
use Rattle.flow_prefix.proofs.address.read_address4.Goals as goal

pub returns-clause-value : goal.returns-clause-value
returns-clause-value c = c.read_whole.ensures.value ∙ sym (address4-whole c.args.text.now)
