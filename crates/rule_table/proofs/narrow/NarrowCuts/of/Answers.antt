use Rattle.std.proofs.Common.{◌≡◌, ◌≤◌, ◌<◌, ◌^◌, get_or, ℕ, List, length, sym, ap, subst, ◌∙◌, arith}
use Rattle.std.specs.List.Sorted.{IsNonDecreasing}
use Rattle.rule_table.specs.Cuts.{most_cuts, narrow_cuts}
use Rattle.rule_table.specs.Classes.{class_of}
use Rattle.rule_table.specs.Narrow.{AreBlocks, AreTops}
use Rattle.rule_table.proofs.CountLaws.{narrow_ascending, narrow_class, narrow_few, narrow_low}
use Rattle.rule_table.proofs.HeadLaws.{heads_alike}
use Rattle.rule_table.proofs.narrow.NarrowCuts.of.Goals as goal

few_cuts : (cuts narrow : List ℕ) → narrow ≡ narrow_cuts cuts → length cuts ≤ most_cuts → length narrow ≤ most_cuts
few_cuts cuts narrow are few = omega (arith, ap length are, narrow_few cuts, few)

pub whole_blocks-requires : goal.whole_blocks-requires
whole_blocks-requires c = omega (arith, c.len-count.ensures, few_cuts c.args.cuts.now c.in_ok-narrow.narrow.items c.in_ok-narrow.ensures c.requires.few)

pub fill-requires : goal.fill-requires
fill-requires c = record {
  ascending = subst (λ xs. IsNonDecreasing xs) (sym c.in_ok-narrow.ensures) (narrow_ascending c.args.cuts.now c.requires.ascending);
  low = λ k l. subst (λ xs. get_or xs k 0 < 2 ^ 32) (sym c.in_ok-narrow.ensures) (narrow_low c.args.cuts.now k (omega (arith, l, ap length c.in_ok-narrow.ensures)));
  room = omega (arith, c.len-count.ensures, c.whole_blocks.ensures.least);
}

pub tops_of-requires : goal.tops_of-requires
tops_of-requires c = omega (arith, ap length c.deref.ensures.value, c.in_ok-fill.ensures.count, c.whole_blocks.ensures.few)

pub tops_of-requires-2 : goal.tops_of-requires-2
tops_of-requires-2 c = omega (arith, c.in_ok-tops.ensures.all, ap length c.deref-2.ensures.value, ap length c.deref.ensures.value, c.in_ok-fill.ensures.count, c.whole_blocks.ensures.few)

pub invariant_of-result : goal.invariant_of-result
invariant_of-result c = record {
  blocks = record {
    ascending = c.in_ok-fill.ensures.ascending;
    few = omega (arith, c.in_ok-fill.ensures.count, c.whole_blocks.ensures.few);
    whole = subst (λ n. AreBlocks n) (sym c.in_ok-fill.ensures.count) c.whole_blocks.ensures.whole;
    each_top = subst (λ xs. AreTops xs c.in_ok-tops.tops.items) c.deref.ensures.value c.in_ok-tops.ensures;
    each_summit = subst (λ xs. AreTops xs c.in_ok-summits.summits.items) c.deref-2.ensures.value c.in_ok-summits.ensures;
  };
  by_head = heads_alike c.args.cuts.now _ 32 c.in_ok-heads.heads
      (λ address low. c.in_ok-fill.ensures.same address low ∙ ap (λ xs. class_of xs address) c.in_ok-narrow.ensures ∙ narrow_class c.args.cuts.now address low) c.in_ok-heads.ensures;
}

pub returns : goal.returns
returns c = λ address low. c.in_ok-fill.ensures.same address low ∙ ap (λ xs. class_of xs address) c.in_ok-narrow.ensures ∙ narrow_class c.args.cuts.now address low
