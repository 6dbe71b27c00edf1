use Rattle.std.proofs.Common.{ℕ, List, [], subst}
use Rattle.std.specs.Prelude.{MatchOption}
use Rattle.mediator_connections.specs.CommandInput.{EndsBehind, IsLine, HandsOutOctets}
use Rattle.mediator_connections.proofs.Offering.{err_gives}
use Rattle.mediator_connections.proofs.Exchanging.{stops_behind_line, hears_line}
use Rattle.mediator_connections.proofs.admin.hear.Goals as goal

pub returns-in_err-heard-clause-err : goal.returns-in_err-heard-clause-err
returns-in_err-heard-clause-err g c =
    err_gives c.from_residual-in_err-heard.result c.from_residual-in_err-heard.ensures
    (λ e is. stops_behind_line e c.in_err-heard.field-0.0 c.args.input.now c.next_line.new.self c.answer_line.new.input (g.R.Source.remaining c.args.reader.now) (g.R.Source.remaining c.next_line.new.reader) (g.R.Source.remaining c.answer_line.new.reader) c.in-Some.line.items is
    (subst (λ o. MatchOption o (EndsBehind c.args.input.now (g.R.Source.remaining c.args.reader.now) (g.R.Source.remaining c.next_line.new.reader) []) (λ line. (octets : List ℕ) × IsLine line.items octets × HandsOutOctets c.args.input.now (g.R.Source.remaining c.args.reader.now) (g.R.Source.remaining c.next_line.new.reader) octets c.next_line.new.self)) c.in-Some.is c.in_ok-line.ensures.ok)
    c.in_err-heard.ensures.err)

pub returns-clause-ok : goal.returns-clause-ok
returns-clause-ok g c =
    hears_line c.in_ok-heard.heard.answer c.in_ok-heard.heard.stops c.args.input.now c.next_line.new.self c.answer_line.new.input (g.R.Source.remaining c.args.reader.now) (g.R.Source.remaining c.next_line.new.reader) (g.R.Source.remaining c.answer_line.new.reader) c.in-Some.line.items c.as_slice-line.result.now c.args.handle.now c.answer_line.new.handle c.as_slice-line.ensures.value
    (subst (λ o. MatchOption o (EndsBehind c.args.input.now (g.R.Source.remaining c.args.reader.now) (g.R.Source.remaining c.next_line.new.reader) []) (λ line. (octets : List ℕ) × IsLine line.items octets × HandsOutOctets c.args.input.now (g.R.Source.remaining c.args.reader.now) (g.R.Source.remaining c.next_line.new.reader) octets c.next_line.new.self)) c.in-Some.is c.in_ok-line.ensures.ok)
    c.in_ok-heard.ensures.ok c.in_ok-heard.ensures.stops
