use Rattle.std.proofs.Common.{◌≡◌, take}
use Rattle.ipfix_records.specs.Runs.{records_of_runs}
use Rattle.ipfix_records.proofs.records.Records.to_vec.Given as goal

abbrev pub invariant-loop-run : goal.invariant-loop-run
invariant-loop-run l = l.list.items ≡ records_of_runs (take l.run-index l.run-items)
