use Rattle.std.proofs.Common.{◌≡◌, ◌++◌, List, length, map, take, drop, get_or, ap, ◌∙◌, arith}
use Rattle.disclosure_audit.specs.declared.entry.Note.{Note}
use Rattle.disclosure_audit.specs.declared.stretch.Stretch.{Stretch}
use Rattle.disclosure_audit.specs.Queue.{stamp}
use Rattle.disclosure_audit.specs.Stretching.{notes_in}
use Rattle.disclosure_audit.proofs.StretchLaws.{stretch_copied, seen_there, room_left}
use Rattle.disclosure_audit.proofs.stretches.Stretches.copy_part.Goals as goal

abbrev none : Stretch
none = record { first = 0; count = 0; from = 0; len = 0 }

pub loop-stretch-preserved : goal.loop-stretch-preserved
loop-stretch-preserved c =
    let all = c.self.inside.each.items in
    let ss = c.self.inside.stretches.items in
    let i = c.loop-stretch.stretch-index in
    let sized : length (notes_in c.as_slice.result.now (get_or c.as_slice-stretch-items.result.now i none)) ≡ length (notes_in all (get_or ss i none)) =
    ap (λ (l : List Note). length l) (seen_there all _ ss _ i none c.as_slice.ensures.value c.as_slice-stretch-items.ensures.value)
    in
    let copied =
    c.in_ok-copy_part.ensures.copied
    ∙ ap (λ l. c.loop-stretch.out.items ++ map (stamp c.args.position) (take c.min-taken.result (drop c.min-passed.result l)))
    (seen_there all _ ss _ i none c.as_slice-in-loop-stretch.ensures.value c.as_slice-stretch-items.ensures.value)
    in
    record {
      copied =
          stretch_copied all ss i none c.args.position c.loop-stretch.left c.loop-stretch.skip c.min-passed.result c.min-taken.result _ _ _ (omega (arith, c.loop-stretch-test.true))
          c.loop-stretch.invariant.copied (omega (arith, c.min-passed.ensures, c.size-size.ensures, sized)) (omega (arith, c.min-taken.ensures, c.size-size.ensures, sized)) copied;
      left_room = room_left _ _ _ _ c.loop-stretch.left c.min-taken.result _ c.in_ok-copy_part.ensures.copied c.loop-stretch.invariant.left_room (omega (arith, c.min-taken.ensures));
      room = c.copy_part.ensures.capacity ∙ c.loop-stretch.invariant.room;
    }
