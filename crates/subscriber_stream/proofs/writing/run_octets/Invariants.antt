use Rattle.subscriber_stream.proofs.Spans.{IsCounting}
use Rattle.subscriber_stream.proofs.writing.run_octets.Given as goal

abbrev pub invariant-records : goal.invariant-records
invariant-records l = IsCounting l.queue.items l.id l.place l.count l.at l.left l.octets
