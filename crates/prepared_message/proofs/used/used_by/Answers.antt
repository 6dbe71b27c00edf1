use Rattle.std.proofs.Common.{map, None, arith}
use Rattle.prepared_message.specs.Uses.{known_in, used_by}
use Rattle.prepared_message.specs.Seen.{used_pair}
use Rattle.prepared_message.proofs.UseLaws.{used_all}
use Rattle.prepared_message.proofs.used.used_by.Goals as goal

pub returns : goal.returns
returns c = used_all (known_in c.args.domain c.args.templates.now) c.args.said.now c.loop-item.item-index c.loop-item.before (map used_pair c.loop-item.uses.items) _ (omega (arith, c.loop-item-test.false)) c.loop-item.invariant
