use Rattle.mediator_connections.proofs.Offering.{err_gives}
use Rattle.mediator_connections.proofs.Commands.{text_lost}
use Rattle.mediator_connections.proofs.command_input.CommandInput.take.Goals as goal

pub returns-in_err-reserve-in-Some-clause-err : goal.returns-in_err-reserve-in-Some-clause-err
returns-in_err-reserve-in-Some-clause-err g c =
    err_gives c.from_residual-in_err-reserve-in-Some.result c.from_residual-in_err-reserve-in-Some.ensures
    (λ e is. text_lost e c.args.self.now c.octets.self c.next_octet.new.self (g.R.Source.remaining c.args.reader.now) (g.R.Source.remaining c.octets.reader) (g.R.Source.remaining c.next_octet.new.reader) c.octets.text.items c.in_ok-octet.field-0 c.in-Some.octet is c.in-Some.is c.octets.invariant.0 c.in_ok-octet.ensures.ok)
