use Rattle.std.proofs.Common.{◌≡◌, take, false}
use Rattle.ipfix_records.specs.Runs.{records_of_runs}
use Rattle.subscriber_stream.specs.Shapes.{is_used}
use Rattle.subscriber_stream.proofs.room.is_used.Given as goal

abbrev pub invariant-loop-earlier : goal.invariant-loop-earlier
invariant-loop-earlier l = is_used l.template (records_of_runs (take l.earlier-index l.runs)) ≡ false
