use Rattle.std.proofs.Common.{◌++◌, ◌/◌, length, take, ◌∷◌, [], refl, ap, ◌∙◌, arith}
use Rattle.disclosure_audit.proofs.StretchLaws.{added_with_part, added_without, front_of_each, whole_records, clones_behind}
use Rattle.disclosure_audit.proofs.stretches.Stretches.add.Goals as goal
use Rattle.disclosure_audit.proofs.stretches.Stretches.add.Goals.{then-part-gt0, else-part-gt0}

pub invariant_of-self-2 : goal.invariant_of-self-2
invariant_of-self-2 c =
    let front = take c.min.result c.args.each.now in
    let enough = front_of_each c.args.most c.args.first c.args.count c.min.result c.args.each.now c.requires.some c.requires.there c.min.ensures in
    elim c.if-part-gt0.branch [
      | then-part-gt0 w ↦ rw w.self-inside-is
          (added_with_part c.self.inside.each.items front _ c.self.inside.stretches.items _ _ _ c.len-from.result c.args.first c.args.count _ _ c.args.most _ c.self.invariant c.self.view_is
          (clones_behind _ _ _ c.in_ok-extend_from_slice.ensures.items ∙ ap (λ l. l ++ front) c.in_ok-make_room.ensures.each) (omega (arith, c.len-from.ensures, c.self.inside.each.ok.0))
          (c.push_reserved.ensures.items ∙ ap (λ l. l ++ whole_records c.len-from.result c.args.first (c.args.most / length front) front ∷ []) c.in_ok-make_room.ensures.stretches) w.push_reserved-then-part-gt0.ensures.items c.requires.places refl refl enough.some enough.there w.if-part-gt0.true).sound
      | else-part-gt0 w ↦ rw w.self-inside-is
          (added_without c.self.inside.each.items front _ c.self.inside.stretches.items _ _ c.len-from.result c.args.first c.args.count _ _ c.args.most _ c.self.invariant c.self.view_is
          (clones_behind _ _ _ c.in_ok-extend_from_slice.ensures.items ∙ ap (λ l. l ++ front) c.in_ok-make_room.ensures.each) (omega (arith, c.len-from.ensures, c.self.inside.each.ok.0))
          (c.push_reserved.ensures.items ∙ ap (λ l. l ++ whole_records c.len-from.result c.args.first (c.args.most / length front) front ∷ []) c.in_ok-make_room.ensures.stretches) c.requires.places refl refl enough.some enough.there (omega (arith, w.if-part-gt0.false))).sound
    ]

pub returns : goal.returns
returns c =
    let front = take c.min.result c.args.each.now in
    let enough = front_of_each c.args.most c.args.first c.args.count c.min.result c.args.each.now c.requires.some c.requires.there c.min.ensures in
    elim c.if-part-gt0.branch [
      | then-part-gt0 w ↦ rw w.self-inside-is (
          (added_with_part c.self.inside.each.items front _ c.self.inside.stretches.items _ _ _ c.len-from.result c.args.first c.args.count _ _ c.args.most _ c.self.invariant c.self.view_is
          (clones_behind _ _ _ c.in_ok-extend_from_slice.ensures.items ∙ ap (λ l. l ++ front) c.in_ok-make_room.ensures.each) (omega (arith, c.len-from.ensures, c.self.inside.each.ok.0))
          (c.push_reserved.ensures.items ∙ ap (λ l. l ++ whole_records c.len-from.result c.args.first (c.args.most / length front) front ∷ []) c.in_ok-make_room.ensures.stretches) w.push_reserved-then-part-gt0.ensures.items c.requires.places refl refl enough.some enough.there w.if-part-gt0.true).same ∙ ap (λ l. c.args.self.now ++ l) enough.same)
      | else-part-gt0 w ↦ rw w.self-inside-is (
          (added_without c.self.inside.each.items front _ c.self.inside.stretches.items _ _ c.len-from.result c.args.first c.args.count _ _ c.args.most _ c.self.invariant c.self.view_is
          (clones_behind _ _ _ c.in_ok-extend_from_slice.ensures.items ∙ ap (λ l. l ++ front) c.in_ok-make_room.ensures.each) (omega (arith, c.len-from.ensures, c.self.inside.each.ok.0))
          (c.push_reserved.ensures.items ∙ ap (λ l. l ++ whole_records c.len-from.result c.args.first (c.args.most / length front) front ∷ []) c.in_ok-make_room.ensures.stretches) c.requires.places refl refl enough.some enough.there (omega (arith, w.if-part-gt0.false))).same ∙ ap (λ l. c.args.self.now ++ l) enough.same)
    ]
