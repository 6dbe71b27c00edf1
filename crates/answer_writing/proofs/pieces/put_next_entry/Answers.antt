use Rattle.answer_writing.proofs.PieceLaws.{entry_first}
use Rattle.answer_writing.proofs.pieces.put_next_entry.Goals as goal

pub returns-in-Some : goal.returns-in-Some
returns-in-Some c = (
  entry_first c.in-Some.entry.now c.args.entries.now c.in-Some.entries.now c.put_entry-fields.result.now c.args.buffer.now c.put_entry-fields.new.buffer c.in-Some.ensures.cases.0 c.put_entry-fields.ensures.put,
  c.put_entry-fields.ensures.some,
)
