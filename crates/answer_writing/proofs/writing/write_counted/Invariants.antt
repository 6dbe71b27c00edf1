use Rattle.std.proofs.Common.{◌≡◌, ◌+◌, ◌≤◌, length}
use Rattle.answer_writing.specs.Pieces.{most_octets, longest_piece, rest_of_lines}
use Rattle.answer_writing.specs.Written.{drained_octets}
use Rattle.answer_writing.proofs.Sending.{IsSending}
use Rattle.answer_writing.proofs.writing.write_counted.Given as goal

abbrev pub invariant-pieces : goal.invariant-pieces
invariant-pieces g l =
    IsSending (drained_octets l.entries) l.buffer (rest_of_lines l.rest.fields.now l.rest.entries.now) l.fn.sent l.sent (g.S.Sink.contents l.fn.sink) (g.S.Sink.contents l.sink)
    × (length l.buffer + longest_piece ≤ most_octets) × (g.S.Sink.has_failed l.sink ≡ g.S.Sink.has_failed l.fn.sink)

abbrev pub decreases-pieces : goal.decreases-pieces
decreases-pieces g l = length (rest_of_lines l.rest.fields.now l.rest.entries.now)
