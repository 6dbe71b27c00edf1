use Rattle.std.proofs.Common.{◌≡◌, false, length}
use Rattle.mediator_connections.specs.Serving.{Reaches, most_read}
use Rattle.mediator_connections.proofs.exporter.offer_stream.Given as goal

abbrev pub invariant-reads : goal.invariant-reads
invariant-reads g l =
    Reaches (most_read l.fn.pace.workers) l.fn.pace.turns l.intake (g.R.Source.remaining l.fn.reader) (g.R.Source.remaining l.reader) l.fn.handle l.handle × (g.R.Source.has_failed l.reader ≡ false) × (l.before ≡ length l.fn.handle.kept)

abbrev pub decreases-reads : goal.decreases-reads
decreases-reads g l = l.intake.turns
