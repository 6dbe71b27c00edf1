use Rattle.std.specs.Vec.Iter.{into_iter_items}
use Rattle.ipfix_records.specs.Runs.{records_of_runs}
use Rattle.subscriber_stream.proofs.Standings.{IsGiving}
use Rattle.subscriber_stream.proofs.stream.Stream.push_runs.Given as goal

abbrev pub invariant-loop-next : goal.invariant-loop-next
invariant-loop-next l = IsGiving l.self (records_of_runs (into_iter_items l.next-iterator)) l.fn.self (records_of_runs l.fn.runs.items)
