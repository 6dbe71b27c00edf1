use Rattle.std.proofs.Common.{◌≡◌, ◌+◌, ◌≤◌, length, take}
use Rattle.ipfix_records.specs.Runs.{records_of_runs}
use Rattle.subscriber_stream.specs.Shapes.{shapes_after}
use Rattle.subscriber_stream.proofs.room.new_shapes.Given as goal

abbrev pub invariant-loop-place : goal.invariant-loop-place
invariant-loop-place l =
    (length l.shapes.shapes + l.count ≡ length (shapes_after l.shapes.shapes (records_of_runs (take l.place l.runs)))) × (l.count ≤ l.place)
