use Rattle.std.proofs.Common.{◌≡◌, ◌<◌, ◌≤◌, ◌-◌, length, Some}
use Rattle.ipfix_records.specs.Runs.{run_records}
use Rattle.flow_anonymize.specs.Classes.{classes_of}
use Rattle.flow_anonymize.specs.Parts.{record_at}
use Rattle.mediator_shares.specs.Judges.{JudgeFor}
use Rattle.mediator_shares.proofs.SharingLaws.{IsRunning}
use Rattle.mediator_shares.proofs.shares.Sums.add_run.Given as goal

abbrev pub invariant-stretches : goal.invariant-stretches
invariant-stretches l = IsRunning l.fn.judges.shares l.judges.shares l.fn.self.tallies.items l.self.tallies.items l.fn.self.notes l.self.notes l.domain l.in_force l.before (run_records l.run) l.leaders l.served l.from
    × JudgeFor l.judges l.in_force l.domain (Some l.run.template) l.leaders × (l.from ≤ length l.run.texts)
    × (l.from < length l.run.texts → l.classes ≡ classes_of l.judges.cuts (record_at l.run l.from))

abbrev pub decreases-stretches : goal.decreases-stretches
decreases-stretches l = length l.run.texts - l.from
