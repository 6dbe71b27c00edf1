use Rattle.std.proofs.Common.{◌≡◌, ◌+◌, [], length}
use Rattle.answer_writing.specs.Pieces.{rest_of_lines}
use Rattle.answer_writing.specs.Written.{drained_octets}
use Rattle.answer_writing.proofs.writing.count_drained.Given as goal

abbrev pub invariant-pieces : goal.invariant-pieces
invariant-pieces l = (l.buffer ≡ []) × (l.count + length (rest_of_lines l.rest.fields.now l.rest.entries.now) ≡ l.fn.sent + length (drained_octets l.entries))

abbrev pub decreases-pieces : goal.decreases-pieces
decreases-pieces l = length (rest_of_lines l.rest.fields.now l.rest.entries.now)
