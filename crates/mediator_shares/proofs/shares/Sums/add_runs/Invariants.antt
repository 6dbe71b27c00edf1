use Rattle.mediator_shares.specs.Judges.{JudgesAny}
use Rattle.mediator_shares.proofs.SharingLaws.{AreShares}
use Rattle.mediator_shares.proofs.shares.Sums.add_runs.Given as goal

abbrev pub invariant-runs : goal.invariant-runs
invariant-runs l = AreShares l.judges.shares l.self.tallies.items l.fn.self.notes l.self.notes l.domain l.in_force l.runs l.leaders l.served l.run-index l.before × JudgesAny l.judges l.in_force l.domain l.leaders
