use Rattle.flow_anonymize.proofs.TimeLaws.{times_are_degraded}
use Rattle.flow_anonymize.proofs.laws.times_are_degraded.Goals as goal

pub returns : goal.returns
returns c = times_are_degraded
