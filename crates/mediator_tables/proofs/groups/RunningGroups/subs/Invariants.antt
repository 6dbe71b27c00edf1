use Rattle.std.proofs.Common.{◌≡◌, ◌++◌, map}
use Rattle.std.specs.Map.{keys_of}
use Rattle.mediator_tables.proofs.groups.RunningGroups.subs.Given as goal

abbrev pub invariant-numbers : goal.invariant-numbers
invariant-numbers l = map (λ sub. sub.0) l.subs.items ++ l.number-iterator ≡ keys_of l.self
