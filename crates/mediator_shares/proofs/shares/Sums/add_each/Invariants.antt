use Rattle.std.proofs.Common.{◌+◌, ◌≤◌}
use Rattle.flow_anonymize.specs.Parts.{records_between}
use Rattle.mediator_shares.specs.Adding.{AddsCounts, counted_of, audience_of}
use Rattle.mediator_shares.proofs.shares.Sums.add_each.Given as goal

abbrev pub invariant-records : goal.invariant-records
invariant-records l = AddsCounts (counted_of l.fn.self.tallies.items l.fn.self.notes) (counted_of l.self.tallies.items l.self.notes) (l.before + l.from) (records_between l.from l.place l.run) (audience_of l.domain l.in_force l.leaders l.served)
    × (l.from ≤ l.place)
