use Rattle.std.proofs.Common.{◌∙◌, ap, arith}
use Rattle.subscriber_stream.specs.declared.waiting.Waiting.{Waiting}
use Rattle.subscriber_stream.specs.Waiting.{set_after}
use Rattle.subscriber_stream.specs.Items.{joins}
use Rattle.subscriber_stream.proofs.Queues.{filled_at}
use Rattle.subscriber_stream.proofs.Spans.{counting_more, counting_over, other_set}
use Rattle.subscriber_stream.proofs.writing.run_octets.Goals as goal

pub returns-in-Announce : goal.returns-in-Announce
returns-in-Announce c =
    counting_over _ c.args.id c.args.place c.args.count c.records.at c.records.left c.records.octets _ c.records.invariant (omega arith) c.index.ensures (omega arith) (filled_at _ _ _ c.requires.filled (omega arith) c.index.ensures) (ap (λ (w : Waiting). joins (set_after w) c.args.id) c.in-Announce.is)

pub returns-then-id-other : goal.returns-then-id-other
returns-then-id-other c =
    counting_over _ c.args.id c.args.place c.args.count c.records.at c.records.left c.records.octets _ c.records.invariant (omega arith) c.index.ensures (omega arith) (filled_at _ _ _ c.requires.filled (omega arith) c.index.ensures) (ap (λ (w : Waiting). joins (set_after w) c.args.id) c.in-Bring.is ∙ other_set _ _ c.if-id-other.true)

pub records-preserved : goal.records-preserved
records-preserved c =
    counting_more _ c.args.id c.args.place c.args.count c.records.at c.records.left c.records.octets _ _ _ _ _ c.records.invariant (omega arith) c.index.ensures c.in-Bring.is c.if-id-other.false (omega (arith, c.min-part.ensures, c.len.ensures)) c.octets-octets.ensures.exact
