use Rattle.std.proofs.Common.{◌≡◌}
use Rattle.journal_files.proofs.Gathered.{IsSkipping}
use Rattle.journal_files.proofs.gathering.skip.Given as goal

abbrev pub invariant-pieces : goal.invariant-pieces
invariant-pieces g l = record {
  skips : IsSkipping l.count l.left (g.R.Source.remaining l.fn.source) (g.R.Source.remaining l.source);
  same : g.R.Source.has_failed l.source ≡ g.R.Source.has_failed l.fn.source;
}

abbrev pub decreases-pieces : goal.decreases-pieces
decreases-pieces g l = l.left
