use Rattle.std.proofs.Common.{arith}
use Rattle.ipfix_octets.proofs.Numbers.{room_for_octet}
use Rattle.std.proofs.Common.{length}
use Rattle.ipfix_octets.proofs.number.be_number.Goals as goal

pub overflow_mul-number : goal.overflow_mul-number
overflow_mul-number c =
    omega (arith, room_for_octet c.loop-octet.number c.loop-octet.octet-index (length c.args.octets.now) c.loop-octet.invariant.1 (omega arith) (omega arith))
