use Rattle.std.proofs.Common.{◌≡◌, ◌*◌, ◌-◌, length, refl, ap, ◌∙◌, arith}
use Rattle.disclosure_audit.specs.Noting.{KeptNotes, and_more, notes_of_stretch}
use Rattle.disclosure_audit.proofs.NotingLaws.{kept_as, stretch_more, none_taken}
use Rattle.disclosure_audit.proofs.notes.Notes.push_stretch.Goals as goal
use Rattle.disclosure_audit.proofs.notes.Notes.push_stretch.Goals.{then-kept-gt0+in_ok-add, else-kept-gt0}

pub returns : goal.returns
returns c =
    let k = kept_as c.self.inside.most c.self.inside.kept c.self.inside.count in
    let size : c.saturating_mul-size.result ≡ c.args.count * length c.args.each.now = omega (arith, c.saturating_mul-size.ensures, c.if-size-gt-MOST_COUNTED.false) in
    let room : c.saturating_sub-room.result ≡ c.self.inside.most - length c.self.inside.kept = omega (arith, c.saturating_sub-room.ensures, c.len.ensures) in
    elim c.if-kept-gt0.branch [
      | then-kept-gt0+in_ok-add w ↦ rw w.self-inside-is
          (stretch_more k c.args.first c.args.count c.args.each.now c.saturating_mul-size.result c.saturating_sub-room.result c.min-kept.result _ size room c.min-kept.ensures w.in_ok-add.ensures ∙ ap (λ n. and_more n (notes_of_stretch c.args.first c.args.count c.args.each.now)) c.self.view_is)
      | else-kept-gt0 w ↦ rw w.self-inside-is
          (stretch_more k c.args.first c.args.count c.args.each.now c.saturating_mul-size.result c.saturating_sub-room.result c.min-kept.result _ size room c.min-kept.ensures (none_taken k c.min-kept.result _ w.if-kept-gt0.false) ∙ ap (λ n. and_more n (notes_of_stretch c.args.first c.args.count c.args.each.now)) c.self.view_is)
    ]
