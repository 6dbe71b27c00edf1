use Rattle.std.proofs.Common.{◌≡◌, ◌+◌, ◌-◌, ◌≤◌, true, false, slice_get, set, Some, sym, ap, ◌∙◌, subst, arith}
use Rattle.std.proofs.lemmas.Bool.{iff_false}
use Rattle.shared_mediator.proofs.MarkLaws.{IsMarking, marking_goes_on, marking_refuses, refused_first, is_kept}
use Rattle.shared_mediator.proofs.marks.Marks.mark.Goals as goal
use Rattle.shared_mediator.proofs.marks.Marks.mark.Goals.{Joined-then-position-floor, then-position-floor-via-then-position-floor, then-position-floor-via-else-position-floor+then-not-stands, then-position-floor-via-else-position-floor+else-not-stands+then-not-set}

-- one of the three tests failed
failed : (c : Joined-then-position-floor) → c.loop-receipt.floor ≤ c.receipt-item.result.position → slice_get c.args.journal.now.entries c.receipt-item.result.position ≡ Some c.receipt-item.result.entry
    → slice_get c.loop-receipt.self.marks (c.receipt-item.result.position - c.args.self.now.from) ≡ Some false → ⊥
failed c high there free = elim c.then-position-floor.branch [
  | then-position-floor-via-then-position-floor w ↦ omega (arith, w.if-position-floor.true)
  | then-position-floor-via-else-position-floor+then-not-stands w ↦ iff_false w.stands.ensures.there w.if-not-stands.true there
  | then-position-floor-via-else-position-floor+else-not-stands+then-not-set w ↦
      iff_false w.set.ensures.free w.if-not-set.true (ap (λ n. slice_get c.loop-receipt.self.marks (c.receipt-item.result.position - n)) c.loop-receipt.invariant.from ∙ free)
]

pub returns-then-position-floor-clause-err : goal.returns-then-position-floor-clause-err
returns-then-position-floor-clause-err c = (
  is_kept c.args.kept.now c.loop-receipt.receipt-index c.receipt-item.result c.loop-receipt-test.true c.receipt-item.is,
  marking_refuses c.args.self.now c.args.journal.now.entries c.args.kept.now c.loop-receipt.receipt-index c.loop-receipt.floor c.loop-receipt.self.marks c.receipt-item.result
      c.loop-receipt-test.true c.receipt-item.is c.loop-receipt.invariant.marking (failed c),
)

pub returns-then-position-floor-clause-first : goal.returns-then-position-floor-clause-first
returns-then-position-floor-clause-first c =
    refused_first c.args.self.now c.args.journal.now.entries c.args.kept.now c.loop-receipt.receipt-index c.loop-receipt.floor c.loop-receipt.self.marks c.receipt-item.result
    c.loop-receipt-test.true c.receipt-item.is c.loop-receipt.invariant.marking (failed c)

pub loop-receipt-preserved : goal.loop-receipt-preserved
loop-receipt-preserved c =
    let marks = c.loop-receipt.self.marks in
    let position = c.receipt-item.result.position in
    let from = c.args.self.now.from in
    let free : slice_get marks (position - from) ≡ Some false = ap (λ n. slice_get marks (position - n)) (sym c.loop-receipt.invariant.from) ∙ c.set.ensures.free.0 c.if-not-set.false in
    let set_now : c.set.new.self.marks ≡ set marks (position - from) true = c.set.ensures.set c.if-not-set.false ∙ ap (λ n. set marks (position - n) true) c.loop-receipt.invariant.from in
    record {
      from = c.set.ensures.from ∙ c.loop-receipt.invariant.from;
      marking = subst (IsMarking c.args.self.now c.args.journal.now.entries c.args.kept.now (c.loop-receipt.receipt-index + 1) (position + 1)) (sym set_now)
          (marking_goes_on c.args.self.now c.args.journal.now.entries c.args.kept.now c.loop-receipt.receipt-index c.loop-receipt.floor marks c.receipt-item.result c.loop-receipt-test.true c.receipt-item.is
          c.if-position-floor.false (c.stands.ensures.there.0 c.if-not-stands.false) free c.loop-receipt.invariant.marking);
    }
