use Rattle.std.proofs.Common.{ℕ, List, subst, sym}
use Rattle.std.specs.List.{Contains}
use Rattle.std.proofs.lemmas.List.Sorted.{IsNonDecreasingBy-from_sort, Contains-permutation}
use Rattle.rule_table.proofs.index.places_under.Goals as goal

pub returns-clause-each : goal.returns-clause-each
returns-clause-each c = λ mark place few marked there.
    let P : List ℕ → Type 0 = λ marks. Contains marks mark in
    Contains-permutation _ _ place c.sort_unstable.ensures.permutation (c.in_ok-places.ensures mark place few (subst P (sym c.deref.ensures.value) (c.each_once-marks.ensures mark marked)) there)

pub returns-clause-ascending : goal.returns-clause-ascending
returns-clause-ascending c = IsNonDecreasingBy-from_sort (λ x. x) _ c.sort_unstable.ensures.sorted
