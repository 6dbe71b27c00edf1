use Rattle.subscriber_stream.proofs.TextLaws.{AreFitting}
use Rattle.subscriber_stream.proofs.texts.Texts.fitting.Given as goal

abbrev pub invariant-loop-count : goal.invariant-loop-count
invariant-loop-count l = AreFitting l.room l.self l.count
