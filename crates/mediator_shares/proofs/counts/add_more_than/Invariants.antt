use Rattle.std.proofs.Common.{◌≡◌, ◌+◌, ◌≤◌, map}
use Rattle.mediator_tables.specs.Adding.{tallied}
use Rattle.mediator_shares.specs.Totals.{total_of}
use Rattle.mediator_shares.proofs.TotalLaws.{rest_of}
use Rattle.mediator_shares.proofs.counts.add_more_than.Given as goal

abbrev pub invariant-tallies : goal.invariant-tallies
invariant-tallies l = record {
  counted : rest_of l.fn.tallies l.tally-index + l.fn.most ≡ total_of (map tallied l.fn.tallies) + l.left;
  few : l.left ≤ l.fn.most;
}
