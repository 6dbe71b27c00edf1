use Rattle.mediator_connections.proofs.Exchanging.{name_lost, named_no_stop}
use Rattle.mediator_connections.proofs.admin.answer_line.Goals as goal

pub returns-in-Err-clause-ok : goal.returns-in-Err-clause-ok
returns-in-Err-clause-ok g c = name_lost c.args.line.now c.args.input.now (g.R.Source.remaining c.args.reader.now) c.args.handle.now c.in-Err.ensures.memory

pub returns-in-Err-clause-stops : goal.returns-in-Err-clause-stops
returns-in-Err-clause-stops g c = named_no_stop c.args.line.now c.in-Err.ensures.memory
