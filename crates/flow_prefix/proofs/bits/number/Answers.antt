use Rattle.std.proofs.Common.{arith}
use Rattle.flow_prefix.proofs.PowerLaws.{digit_fits, digit_below}
use Rattle.flow_prefix.proofs.BitLaws.{be_value-more}
use Rattle.flow_prefix.proofs.bits.number.Goals as goal

pub overflow_mul-value : goal.overflow_mul-value
overflow_mul-value c =
    let fits = digit_fits 256 c.loop-octet.octet-index 16 c.loop-octet.value 0 c.loop-octet.invariant.below (omega arith) (omega arith) in
    omega (arith, fits)

pub overflow_add-value : goal.overflow_add-value
overflow_add-value c =
    let fits = digit_fits 256 c.loop-octet.octet-index 16 c.loop-octet.value c.from.result c.loop-octet.invariant.below (omega (arith, c.type_inv.octets c.loop-octet.octet-index)) (omega arith) in
    omega (arith, fits)

pub loop-octet-preserved : goal.loop-octet-preserved
loop-octet-preserved c =
    let more = be_value-more c.args.octets.now c.loop-octet.octet-index (omega arith) in
    record {
      value = omega (arith, more);
      below = digit_below 256 c.loop-octet.octet-index c.loop-octet.value c.from.result c.loop-octet.invariant.below (omega (arith, c.type_inv.octets c.loop-octet.octet-index));
    }
