use Rattle.std.proofs.Common.{arith, append_assoc}
use Rattle.sequences.proofs.JoinLaws.{byte_before-first, byte_before-later, joined_read}
use Rattle.ipfix_element.specs.Names.{element_name}
use Rattle.policy_text.proofs.print.put_key.Goals as goal
use Rattle.policy_text.proofs.print.put_key.Goals.{then-place-gt0+in_ok-push_str, else-place-gt0}

pub loop-place-preserved : goal.loop-place-preserved
loop-place-preserved c =
    let turn = joined_read 44 element_name c.args.key.now c.loop-place.place c.index-key-place.result (omega arith) c.index-key-place.is in
    elim c.if-place-gt0.branch [
      | then-place-gt0+in_ok-push_str w ↦
          let comma = byte_before-later 44 c.loop-place.place (omega arith) in
          rw (c.in_ok-put_element.ensures, w.text-is, w.in_ok-push_str.ensures.bytes, c.loop-place.invariant, turn, comma) (simp append_assoc)
      | else-place-gt0 w ↦
          let comma = byte_before-first 44 c.loop-place.place (omega arith) in
          rw (c.in_ok-put_element.ensures, w.text-is, c.loop-place.invariant, turn, comma) (simp append_assoc)
    ]
