use Rattle.std.proofs.Common.{append-nil, append_assoc}
use Rattle.answer_writing.proofs.pieces.put_what.Goals as goal

pub returns-in-Aggregated-clause-put : goal.returns-in-Aggregated-clause-put
returns-in-Aggregated-clause-put c =
    rw (c.in-Aggregated.is, c.put-in-Aggregated-2.ensures.added, c.put_number-in-Aggregated.ensures.added, c.from-in-Aggregated.ensures, c.put-in-Aggregated.ensures.added) (simp (append_assoc, append-nil))
