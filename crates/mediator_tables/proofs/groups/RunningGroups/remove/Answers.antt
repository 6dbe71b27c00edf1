use Rattle.std.proofs.Common.{rules, ap, ◌∙◌, List, ℕ}
use Rattle.flow_aggregate.specs.Running.{HeldGroups}
use Rattle.mediator_tables.specs.GroupTable.{held_at}
use Rattle.mediator_tables.proofs.GroupTableLaws.{held_elsewhere}
use Rattle.mediator_tables.proofs.groups.RunningGroups.remove.Goals.{in-Some, in_default}
use Rattle.mediator_tables.proofs.groups.RunningGroups.remove.Goals as goal

pub returns-clause-others : goal.returns-clause-others
returns-clause-others c q other = elim c.match-get_mut.branch [
  | in-Some w ↦ rw w.self-inside-is (held_elsewhere c.args.self.now c.self.inside.by_number.entries _ c.args.sub.0 q w.hashed.result c.self.view_is (search rules) other)
  | in_default w ↦ rw w.self-inside-is (ap (λ (es : List (ℕ × HeldGroups)). held_at es q) (search rules ∙ c.self.view_is))
]
