use Rattle.std.proofs.Common.{ap}
use Rattle.ipfix_records.specs.Runs.{run_records, records_of_runs}
use Rattle.subscriber_stream.proofs.Standings.{IsGiving-next, IsGiving-can}
use Rattle.subscriber_stream.proofs.stream.Stream.push_runs.Goals as goal

pub push_run-requires-clause-room : goal.push_run-requires-clause-room
push_run-requires-clause-room c =
    (IsGiving-can c.loop-next.self (run_records c.in-Some.next) _ _ _ _ (ap records_of_runs c.in-Some.ensures.steps.0) c.loop-next.invariant).room

pub loop-next-preserved : goal.loop-next-preserved
loop-next-preserved c =
    rw c.push_run.ensures (IsGiving-next c.loop-next.self (run_records c.in-Some.next) _ _ _ _ (ap records_of_runs c.in-Some.ensures.steps.0) c.loop-next.invariant)
