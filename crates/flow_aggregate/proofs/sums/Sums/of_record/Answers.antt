use Rattle.flow_aggregate.proofs.WidthLaws.{counters_wide}
use Rattle.flow_aggregate.proofs.sums.Sums.of_record.Goals as goal

pub number_or-requires-clause-wide : goal.number_or-requires-clause-wide
number_or-requires-clause-wide c = counters_wide.0

pub number_or-requires-2-clause-wide : goal.number_or-requires-2-clause-wide
number_or-requires-2-clause-wide c = counters_wide.1

pub number_or-requires-3-clause-wide : goal.number_or-requires-3-clause-wide
number_or-requires-3-clause-wide c = counters_wide.2
