use Rattle.flow_aggregate.proofs.WidthLaws.{below_width}
use Rattle.flow_aggregate.proofs.values.first_number.Goals as goal

pub returns-clause-below : goal.returns-clause-below
returns-clause-below c =
    let wide = rw c.registered.ensures at c.in_ok-value.ensures.wide in
    below_width _ _ _ (wide c.requires.some).1 c.be_number.ensures.below
