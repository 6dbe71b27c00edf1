use Rattle.mediator_connections.proofs.Offering.{err_gives}
use Rattle.mediator_connections.proofs.Commands.{line_ends, line_stops, line_lost}
use Rattle.mediator_connections.proofs.command_input.CommandInput.next_line.Goals as goal

pub returns-in_err-next_octet-clause-err : goal.returns-in_err-next_octet-clause-err
returns-in_err-next_octet-clause-err g c =
    err_gives c.from_residual.result c.from_residual.ensures
    (λ e is. line_stops e c.in_err-next_octet.field-0.0 c.args.self.now c.octets.self c.next_octet.new.self (g.R.Source.remaining c.args.reader.now) (g.R.Source.remaining c.octets.reader) (g.R.Source.remaining c.next_octet.new.reader) c.octets.line.items is c.octets.invariant.0 c.in_err-next_octet.ensures.err)

pub returns-in-Some-eq10-clause-ok : goal.returns-in-Some-eq10-clause-ok
returns-in-Some-eq10-clause-ok g c =
    line_ends c.args.self.now c.octets.self c.next_octet.new.self (g.R.Source.remaining c.args.reader.now) (g.R.Source.remaining c.octets.reader) (g.R.Source.remaining c.next_octet.new.reader) c.octets.line.items c.in_ok-next_octet.field-0 c.in-Some-eq10.field-0 c.in-Some-eq10.is c.in-Some-eq10.field-0-test c.octets.invariant.1 c.octets.invariant.0 c.in_ok-next_octet.ensures.ok

pub returns-in_err-reserve-in-Some-clause-err : goal.returns-in_err-reserve-in-Some-clause-err
returns-in_err-reserve-in-Some-clause-err g c =
    err_gives c.from_residual-in_err-reserve-in-Some.result c.from_residual-in_err-reserve-in-Some.ensures
    (λ e is. line_lost e c.args.self.now c.octets.self c.next_octet.new.self (g.R.Source.remaining c.args.reader.now) (g.R.Source.remaining c.octets.reader) (g.R.Source.remaining c.next_octet.new.reader) c.octets.line.items c.in_ok-next_octet.field-0 c.in-Some.octet is c.in-Some.is c.octets.invariant.0 c.in_ok-next_octet.ensures.ok)
