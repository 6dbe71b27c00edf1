use Rattle.std.proofs.Common.{eqb, ℕ, List, subst, sym}
use Rattle.std.specs.List.{Contains}
use Rattle.std.proofs.lemmas.List.Filters.{dedup_is}
use Rattle.std.proofs.lemmas.List.Kept.{Contains-dedup_nat}
use Rattle.std.proofs.lemmas.List.Sorted.{Contains-permutation}
use Rattle.rule_table.proofs.index.each_once.Goals as goal

pub returns : goal.returns
returns c = λ mark there.
    let P : List ℕ → Type 0 = λ marks. Contains marks mark in
    subst P (sym (dedup_is eqb _ _ c.dedup.ensures.filtered)) (Contains-dedup_nat _ mark (Contains-permutation _ _ mark c.sort_unstable.ensures.permutation there))
