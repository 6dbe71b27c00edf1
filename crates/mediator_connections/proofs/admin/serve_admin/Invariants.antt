use Rattle.std.proofs.Common.{◌≡◌, false}
use Rattle.mediator_connections.proofs.Exchanging.{Serving}
use Rattle.mediator_connections.proofs.admin.serve_admin.Given as goal

abbrev pub invariant-commands : goal.invariant-commands
invariant-commands g l =
    (goal.iterator-commands g).can_next l.iterator' × (goal.iterator-commands g).is_finite l.iterator'
    × Serving l.fn.turns l.input l.count l.sent (g.R.Source.remaining l.fn.reader) (g.R.Source.remaining l.reader) (g.W.Sink.contents l.fn.writer) (g.W.Sink.contents l.writer) l.fn.handle l.handle
    × (g.R.Source.has_failed l.reader ≡ false) × (g.W.Sink.has_failed l.writer ≡ false)
