use Rattle.std.proofs.Common.{arith, append_assoc}
use Rattle.sequences.proofs.JoinLaws.{byte_before-first, byte_before-later, joined_more}
use Rattle.disclosure_audit.specs.Lines.{field_text}
use Rattle.disclosure_audit.proofs.lines.put_fields.Goals as goal
use Rattle.disclosure_audit.proofs.lines.put_fields.Goals.{then-at-gt0+in_ok-put_mark, else-at-gt0}

pub loop-at-preserved : goal.loop-at-preserved
loop-at-preserved c =
    let turn = joined_more 44 field_text c.args.fields.now c.loop-at.at (record { place = 0; rule = 0 }) (omega arith) in
    elim c.if-at-gt0.branch [
      | then-at-gt0+in_ok-put_mark w ↦
          let comma = byte_before-later 44 c.loop-at.at (omega arith) in
          rw (c.in_ok-put_field.ensures, w.text-is, w.in_ok-put_mark.ensures, c.loop-at.invariant, turn, comma) (simp append_assoc)
      | else-at-gt0 w ↦
          let comma = byte_before-first 44 c.loop-at.at (omega arith) in
          rw (c.in_ok-put_field.ensures, w.text-is, c.loop-at.invariant, turn, comma) (simp append_assoc)
    ]
