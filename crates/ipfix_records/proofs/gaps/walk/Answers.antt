use Rattle.std.proofs.Common.{rules, ◌≡◌, ◌+◌, ◌≤◌, Bool, eqb, get_or, sym, ap, ◌∙◌, subst, length, length-drop, arith}
use Rattle.std.specs.Prelude.{◌&&◌}
use Rattle.std.proofs.lemmas.List.{take_rest}
use Rattle.ipfix_records.specs.Gaps.{start_of, walk_at}
use Rattle.ipfix_records.proofs.GapLaws.{IsWalked, gap_past, walk_begins, one_walked, no_more_walked, past_walked, all_walked}
use Rattle.ipfix_records.proofs.gaps.walk.Goals.{then-is_shortest, else-is_shortest}
use Rattle.ipfix_records.proofs.gaps.walk.Goals as goal

pub returns-then-octets-first-clause-exact : goal.returns-then-octets-first-clause-exact
returns-then-octets-first-clause-exact c = sym (gap_past c.args.first c.args.gaps.now c.args.octets.now c.if-octets-first.true)

pub loop-gap-init : goal.loop-gap-init
loop-gap-init c = record {
  within = omega arith;
  walked = walk_begins c.args.first c.args.gaps.now c.args.octets.now c.if-octets-first.false;
}

pub returns-in_default-clause-exact : goal.returns-in_default-clause-exact
returns-in_default-clause-exact c =
    sym (no_more_walked c.args.gaps.now c.args.octets.now _ c.loop-gap.gap-index c.loop-gap.used c.loop-gap.is_shortest _ c.loop-gap-test.true (take_rest c.args.octets.now c.loop-gap.used) (sym c.read_varlen.ensures.exact ∙ c.in_default.is) c.loop-gap.invariant)

pub returns-then-octets-end-clause-exact : goal.returns-then-octets-end-clause-exact
returns-then-octets-end-clause-exact c =
    let octets = c.args.octets.now in
    sym (past_walked c.args.gaps.now octets _ c.loop-gap.gap-index c.loop-gap.used c.in-Some.start c.in-Some.length c.loop-gap.is_shortest _ c.loop-gap-test.true (take_rest octets c.loop-gap.used) (sym c.in-Some.ensures.exact)
    (omega (arith, c.if-octets-end.true, c.loop-gap.invariant.within, c.in-Some.ensures.within, ap length (take_rest octets c.loop-gap.used), length-drop c.loop-gap.used octets)) c.in-Some.ensures.within c.loop-gap.invariant)

pub loop-gap-preserved : goal.loop-gap-preserved
loop-gap-preserved c =
    let octets = c.args.octets.now in
    let start = c.in-Some.start in
    let len = c.in-Some.length in
    let gap = get_or c.args.gaps.now c.loop-gap.gap-index 0 in
    let same : c.if-is_shortest.is_shortest ≡ (c.loop-gap.is_shortest && eqb start (start_of len)) = elim c.if-is_shortest.branch [ then-is_shortest w ↦ search rules | else-is_shortest w ↦ search rules ] in
    let enough : c.loop-gap.used + start + len + gap ≤ length octets = omega (arith, c.if-octets-end.false, c.loop-gap.invariant.within, c.in-Some.ensures.within, ap length (take_rest octets c.loop-gap.used), length-drop c.loop-gap.used octets) in
    subst (λ (b : Bool). IsWalked c.args.gaps.now octets (c.loop-gap.gap-index + 1) (c.loop-gap.used + start + len + gap) b (walk_at c.args.first c.args.gaps.now octets)) (sym same)
    (one_walked c.args.gaps.now octets _ c.loop-gap.gap-index c.loop-gap.used start len c.loop-gap.is_shortest _ c.loop-gap-test.true (take_rest octets c.loop-gap.used) (sym c.in-Some.ensures.exact) c.in-Some.ensures.within enough c.loop-gap.invariant)

pub returns-clause-exact : goal.returns-clause-exact
returns-clause-exact c = all_walked c.args.gaps.now c.args.octets.now c.loop-gap.gap-index c.loop-gap.used c.loop-gap.is_shortest _ (omega arith) c.loop-gap.invariant
