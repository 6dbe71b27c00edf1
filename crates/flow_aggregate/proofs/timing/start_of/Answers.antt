use Rattle.std.proofs.Common.{arith, ◌<◌}
use Rattle.flow_aggregate.proofs.WidthLaws.{milliseconds_wide, seconds_wide}
use Rattle.flow_aggregate.proofs.timing.start_of.Goals as goal

pub first_number-requires-clause-some : goal.first_number-requires-clause-some
first_number-requires-clause-some c = omega (arith, milliseconds_wide)

pub first_number-requires-clause-few : goal.first_number-requires-clause-few
first_number-requires-clause-few c = omega (arith, milliseconds_wide)

pub first_number-requires-in-None-clause-some : goal.first_number-requires-in-None-clause-some
first_number-requires-in-None-clause-some c = omega (arith, seconds_wide)

pub first_number-requires-in-None-clause-few : goal.first_number-requires-in-None-clause-few
first_number-requires-in-None-clause-few c = omega (arith, seconds_wide)

pub overflow_mul-result : goal.overflow_mul-result
overflow_mul-result c =
    let below : c.in_ok-seconds-in-None.seconds < 4294967296 = rw seconds_wide at c.in_ok-seconds-in-None.ensures.below in
    omega (arith, below)
