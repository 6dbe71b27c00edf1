use Rattle.std.proofs.Common.{append_assoc}
use Rattle.answer_writing.proofs.PieceLaws.{line_is}
use Rattle.answer_writing.proofs.pieces.put_entry.Goals as goal

pub returns-clause-put : goal.returns-clause-put
returns-clause-put c =
    rw (c.put_what.ensures.put, c.put-3.ensures.added, c.put_number-3.ensures.added, c.put-2.ensures.added, c.put_number-2.ensures.added, c.from.ensures, c.put.ensures.added, c.put_number.ensures.added, line_is c.args.entry.now.position c.args.entry.now.index c.args.entry.now.sub c.args.entry.now.what) (simp append_assoc)
