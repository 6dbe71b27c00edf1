use Rattle.std.proofs.Common.{◌≡◌, ◌≤◌, ◌-◌, length}
use Rattle.journal_files.specs.Gathering.{Gathers}
use Rattle.journal_files.proofs.gathering.fill.Given as goal

abbrev pub invariant-reads : goal.invariant-reads
invariant-reads g l = record {
  few : length l.held.items ≤ l.wanted;
  gathers : Gathers (g.R.Source.remaining l.fn.source) (g.R.Source.remaining l.source) l.fn.held.items l.held.items;
  same : g.R.Source.has_failed l.source ≡ g.R.Source.has_failed l.fn.source;
}

abbrev pub decreases-reads : goal.decreases-reads
decreases-reads g l = l.wanted - length l.held.items
