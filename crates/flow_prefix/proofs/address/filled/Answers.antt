use Rattle.std.proofs.Common.{arith, ◌-◌, refl}
use Rattle.flow_prefix.proofs.PowerLaws.{power_up, left_place, left_below, sides_below}
use Rattle.flow_prefix.proofs.address.filled.Goals as goal

pub pow-requires : goal.pow-requires
pow-requires c = let up = power_up 65536 (omega arith) (7 - c.args.left.count) 7 (omega arith) in omega (arith, up)

pub overflow_mul-result : goal.overflow_mul-result
overflow_mul-result c =
    let below = left_below c.args.left.count c.args.left.value (omega arith) c.requires.left_counted.below in
    rw c.pow.ensures (omega (arith, below))

pub overflow_mul-result-2 : goal.overflow_mul-result-2
overflow_mul-result-2 c =
    let below = left_below c.args.left.count c.args.left.value (omega arith) c.requires.left_counted.below in
    rw c.pow.ensures (omega (arith, below))

pub overflow_add-result : goal.overflow_add-result
overflow_add-result c =
    let below = sides_below c.args.left.count c.args.right.count c.args.left.value c.args.right.value c.requires.room c.requires.left_counted.below c.requires.right_counted.below in
    let place = left_place c.args.left.count c.args.left.value (omega arith) in
    rw (c.pow.ensures, place) (omega (arith, below))

pub returns-clause-value : goal.returns-clause-value
returns-clause-value c =
    let place = left_place c.args.left.count c.args.left.value (omega arith) in
    rw (c.pow.ensures, place) refl

pub returns-clause-bound : goal.returns-clause-bound
returns-clause-bound c =
    let below = sides_below c.args.left.count c.args.right.count c.args.left.value c.args.right.value c.requires.room c.requires.left_counted.below c.requires.right_counted.below in
    let place = left_place c.args.left.count c.args.left.value (omega arith) in
    rw (c.pow.ensures, place) (omega (arith, below))
