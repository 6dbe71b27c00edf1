use Rattle.std.proofs.Common.{take}
use Rattle.std.specs.List.{AllByRecursion}
use Rattle.ipfix_records.specs.Runs.{records_of_runs}
use Rattle.stream_meaning.specs.Served.{IsStreamable}
use Rattle.stream_meaning.proofs.streamable.records_for_proof.Given as goal

abbrev pub invariant-loop-run : goal.invariant-loop-run
invariant-loop-run l = AllByRecursion IsStreamable (records_of_runs (take l.run-index l.run-items))
