use Rattle.std.proofs.Common.{sym, ap, ◌∙◌}
use Rattle.std.specs.Option.{option_copied_mut}
use Rattle.flow_aggregate.proofs.EntryLaws.{none_written}
use Rattle.flow_aggregate.proofs.running.add_one.Goals as goal

pub returns-in_default : goal.returns-in_default
returns-in_default c =
    sym (none_written c.args.groups.now.entries c.args.addition.now.place _ (sym (ap option_copied_mut c.in_default.is) ∙ c.get_index_mut.ensures.value))
