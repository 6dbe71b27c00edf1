use Rattle.std.proofs.Common.{◌≡◌, ◌<◌, ◌≤◌, ℕ, Some, map, take}
use Rattle.flow_anonymize.specs.Parts.{record_at, records_between}
use Rattle.mediator_shares.specs.Judges.{JudgeFor}
use Rattle.mediator_shares.specs.Deciding.{decision_for}
use Rattle.mediator_shares.proofs.SharingLaws.{IsGiving}
use Rattle.mediator_shares.proofs.deciding.decide.Given as goal

abbrev pub invariant-leaders : goal.invariant-leaders
invariant-leaders l = IsGiving l.fn.judges.shares l.judges.shares l.domain l.in_force (records_between l.from l.to l.run) l.leaders l.place
    × ((i : ℕ) → l.from ≤ i → i < l.to → l.decided.items ≡ map (decision_for l.domain l.in_force (record_at l.run i)) (take l.place l.leaders))
    × JudgeFor l.judges l.in_force l.domain (Some l.run.template) l.leaders × (l.judges.cuts ≡ l.fn.judges.cuts)
