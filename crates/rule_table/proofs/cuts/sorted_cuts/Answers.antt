use Rattle.std.proofs.Common.{eqb, ℕ, List, subst, sym, arith}
use Rattle.std.specs.List.Sorted.{IsNonDecreasing}
use Rattle.std.proofs.lemmas.List.Filters.{dedup_is}
use Rattle.std.proofs.lemmas.Map.Keys.{IsStrictlyIncreasing-dedup}
use Rattle.rule_table.proofs.CutLaws.{increasing_ascends, sorted_few, once_have}
use Rattle.rule_table.proofs.cuts.sorted_cuts.Goals as goal

pub returns-clause-ascending : goal.returns-clause-ascending
returns-clause-ascending c =
    subst (λ (xs : List ℕ). IsNonDecreasing xs) (sym (dedup_is eqb _ _ c.dedup.ensures.filtered)) (increasing_ascends _ (IsStrictlyIncreasing-dedup _ c.sort_unstable.ensures.sorted))

pub returns-clause-few : goal.returns-clause-few
returns-clause-few c =
    let sorted = sorted_few c.in_ok-cuts.cuts.items c.sort_unstable.new.self.items c.args.rules.now c.in_ok-cuts.ensures c.sort_unstable.ensures.permutation c.requires in
    omega (arith, sorted, c.dedup.ensures.bound, c.dedup.new.self.ok.0, c.sort_unstable.new.self.ok.0)

pub returns-clause-all : goal.returns-clause-all
returns-clause-all c =
    once_have c.in_ok-cuts.cuts.items c.sort_unstable.new.self.items c.dedup.new.self.items c.args.rules.now c.in_ok-cuts.ensures c.sort_unstable.ensures.permutation (dedup_is eqb _ _ c.dedup.ensures.filtered)
