use Rattle.std.proofs.Common.{sym, ◌∙◌}
use Rattle.subscriber_stream.specs.Waiting.{items_in}
use Rattle.subscriber_stream.proofs.Standings.{queued_entries}
use Rattle.subscriber_stream.proofs.stream.Stream.queued.Goals as goal

pub returns : goal.returns
returns c = rw (← c.self.view_is) (c.self.invariant.counted ∙ sym (queued_entries c.self.inside.shapes.shapes (items_in c.self.inside.queue.items)))
