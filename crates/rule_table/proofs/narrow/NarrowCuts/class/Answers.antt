use Rattle.std.proofs.Common.{◌≡◌, ◌≤◌, ◌*◌, ◌-◌, List, ℕ, length, min, ap, sym, subst, ◌∙◌, arith}
use Rattle.rule_table.specs.Classes.{class_of}
use Rattle.rule_table.specs.Narrow.{AreNarrow, IsBlock}
use Rattle.rule_table.proofs.NarrowLaws.{AreHigh, high_of, block_at, tops_ascend}
use Rattle.rule_table.proofs.HeadLaws.{block_between, some_block}
use Rattle.rule_table.proofs.narrow.NarrowCuts.class.Goals as goal

block_of_tops : (cuts tops summits : List ℕ) (address n from : ℕ) → AreNarrow cuts tops summits → AreHigh cuts tops summits → n ≡ class_of summits address → from ≡ 16 * (n - 1) → IsBlock tops address from
block_of_tops cuts tops summits address n from are high is begins =
    subst (λ from. IsBlock tops address from) (sym begins) (block_at tops summits address n (tops_ascend cuts tops are.ascending are.each_top) are.each_summit high.some high.summits_whole is)

block_of_cuts : (cuts tops summits : List ℕ) (address n from : ℕ) → AreNarrow cuts tops summits → AreHigh cuts tops summits → n ≡ class_of tops address → from ≡ 16 * (n - 1) → IsBlock cuts address from
block_of_cuts cuts tops summits address n from are high is begins =
    subst (λ from. IsBlock cuts address from) (sym begins) (block_at cuts tops address n are.ascending are.each_top (omega (arith, high.some, high.summits_whole)) high.tops_whole is)

pub count_from-requires-clause-block : goal.count_from-requires-clause-block
count_from-requires-clause-block c =
    let inside = c.self.inside in
    let blocks = c.self.invariant.blocks in
    let low : c.bounds-low.result.0 ≤ class_of inside.cuts.items c.args.address = subst (λ (xs : List ℕ). c.bounds-low.result.0 ≤ class_of xs c.args.address) (sym c.self.view_is) c.bounds-low.ensures.low in
    let high : class_of inside.cuts.items c.args.address ≤ c.bounds-low.result.1 = subst (λ (xs : List ℕ). class_of xs c.args.address ≤ c.bounds-low.result.1) (sym c.self.view_is) c.bounds-low.ensures.high in
    let from : c.min-from.result ≡ min c.bounds-low.result.0 (length inside.cuts.items - 16) = omega (arith, c.min-from.ensures, c.len-then-high-low.ensures, inside.cuts.ok.0) in
    subst (λ (xs : List ℕ). IsBlock xs c.args.address c.min-from.result) (sym c.deref-then-high-low.ensures.value)
    (block_between inside.cuts.items c.args.address c.bounds-low.result.0 c.bounds-low.result.1 c.min-from.result blocks.ascending (some_block inside.cuts.items blocks.whole) low high c.if-high-low.true from)

pub count_from-tops_below-requires-clause-block : goal.count_from-tops_below-requires-clause-block
count_from-tops_below-requires-clause-block c =
    let inside = c.self.inside in
    let high = high_of inside.cuts.items inside.tops.items inside.summits.items c.self.invariant.blocks (λ one. c.if-len-eq-BLOCK.false (omega (arith, c.len.ensures, one, inside.cuts.ok.0))) in
    subst (λ xs. IsBlock xs c.args.address c.block_of.result) (sym c.deref-3.ensures.value)
    (block_of_tops inside.cuts.items inside.tops.items inside.summits.items c.args.address c.count_below-summits_below.result c.block_of.result c.self.invariant.blocks high (c.count_below-summits_below.ensures.class ∙ ap (λ xs. class_of xs c.args.address) c.deref-2.ensures.value) c.block_of.ensures)

pub count_from-requires-2-clause-block : goal.count_from-requires-2-clause-block
count_from-requires-2-clause-block c =
    let inside = c.self.inside in
    let high = high_of inside.cuts.items inside.tops.items inside.summits.items c.self.invariant.blocks (λ one. c.if-len-eq-BLOCK.false (omega (arith, c.len.ensures, one, inside.cuts.ok.0))) in
    subst (λ xs. IsBlock xs c.args.address c.block_of-2.result) (sym c.deref-4.ensures.value)
    (block_of_cuts inside.cuts.items inside.tops.items inside.summits.items c.args.address c.count_from-tops_below.result c.block_of-2.result c.self.invariant.blocks high (c.count_from-tops_below.ensures.class ∙ ap (λ xs. class_of xs c.args.address) c.deref-3.ensures.value) c.block_of-2.ensures)
