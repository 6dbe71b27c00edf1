use Rattle.std.proofs.Common.{◌≡◌, map, take}
use Rattle.flow_anonymize.specs.declared.steps.Step.TheVariants.{Octets}
use Rattle.flow_anonymize.proofs.steps.stretches_of.Given as goal

abbrev pub invariant-loop-step : goal.invariant-loop-step
invariant-loop-step l = map Octets l.stretches.items ≡ take l.step-index l.steps
