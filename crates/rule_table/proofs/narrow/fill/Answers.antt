use Rattle.std.proofs.Common.{◌^◌, ◌<◌, ◌∙◌, get_or, arith, sym, subst, ap, length}
use Rattle.std.specs.List.Sorted.{IsNonDecreasing}
use Rattle.rule_table.specs.Classes.{class_of}
use Rattle.rule_table.proofs.NarrowLaws.{filled, filled_ascends, filled_low}
use Rattle.rule_table.proofs.narrow.fill.Goals as goal

pub cuts-preserved : goal.cuts-preserved
cuts-preserved c =
    let is = c.in_ok-push.ensures.items in
    record {
      ascending = subst (λ xs. IsNonDecreasing xs) (sym is) (filled_ascends c.cuts.cuts.items 4294967295 c.cuts.invariant.ascending (λ k l. omega (arith, c.cuts.invariant.low k l)));
      low = λ k l. subst (λ xs. get_or xs k 0 < 2 ^ 32) (sym is) (filled_low c.cuts.cuts.items 4294967295 (2 ^ 32) k c.cuts.invariant.low (omega arith) (omega (arith, l, ap length is)));
      room = omega (arith, ap length is, c.cuts-test.true, c.len.ensures);
      same = λ address low. ap (λ xs. class_of xs address) is ∙ filled c.cuts.cuts.items 4294967295 address (omega (arith, low)) ∙ c.cuts.invariant.same address low;
    }
