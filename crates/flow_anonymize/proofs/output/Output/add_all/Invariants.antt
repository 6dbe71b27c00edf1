use Rattle.std.proofs.Common.{◌≡◌, ◌++◌, ◌≤◌}
use Rattle.std.specs.List.{flat_map}
use Rattle.flow_anonymize.specs.Parts.{records_between}
use Rattle.flow_anonymize.specs.PlanCache.{passed_by}
use Rattle.flow_anonymize.proofs.OutputLaws.{as_output}
use Rattle.flow_anonymize.proofs.output.Output.add_all.Given as goal

abbrev pub invariant-records : goal.invariant-records
invariant-records l = (l.self ≡ as_output (l.fn.self.given ++ flat_map (passed_by l.plan) (records_between l.from l.place l.run)) l.fn.self.writing) × (l.from ≤ l.place)
