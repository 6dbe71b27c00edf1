use Rattle.subscriber_stream.proofs.Costs.{IsRun}
use Rattle.subscriber_stream.proofs.fitting.whole_run.Given as goal

abbrev pub invariant-loop-place : goal.invariant-loop-place
invariant-loop-place l = IsRun l.target l.queue.items l.place l.run.parts l.run.octets l.last
