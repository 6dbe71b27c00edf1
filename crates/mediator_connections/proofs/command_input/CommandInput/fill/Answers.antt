use Rattle.mediator_connections.proofs.Commands.{fills_same}
use Rattle.std.proofs.Common.{sym, ap}
use Rattle.mediator_connections.proofs.command_input.CommandInput.fill.Goals as goal

pub returns-then-self-clause-ok : goal.returns-then-self-clause-ok
returns-then-self-clause-ok g c =
    fills_same c.args.self.now (g.R.Source.remaining c.args.reader.now) c.self.inside.from c.self.inside.to c.self.inside.piece.items (sym (ap (λ i. i.pending) c.self.view_is)) c.if-self.true c.self.invariant.0 c.self.invariant.1
