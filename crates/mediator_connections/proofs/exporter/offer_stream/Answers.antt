use Rattle.std.proofs.Common.{sym, ap, ◌∙◌, subst, arith, length, ◌-◌}
use Rattle.std.specs.Prelude.{MatchOption}
use Rattle.ipfix_reader.specs.Intake.{Ends, Yields}
use Rattle.mediator_connections.specs.Serving.{StopsServing, RefusesAmong, most_read}
use Rattle.mediator_connections.proofs.Offering.{err_gives, receipts_count}
use Rattle.mediator_connections.proofs.Reading.{reading_starts, reads_on, reading_ends, begins_not, message_stops, intake_stops}
use Rattle.mediator_connections.proofs.exporter.offer_stream.Goals as goal

pub returns-in_err-intake-clause-stops : goal.returns-in_err-intake-clause-stops
returns-in_err-intake-clause-stops g c =
    err_gives c.from_residual.result c.from_residual.ensures (λ e is. subst (λ x. StopsServing x (most_read c.args.pace.workers) c.args.pace.turns (g.R.Source.remaining c.args.reader.now) (g.R.Source.remaining c.args.reader.now) c.args.handle.now c.args.handle.now) (sym is) (begins_not (most_read c.args.pace.workers) c.args.pace.turns (g.R.Source.remaining c.args.reader.now) c.args.handle.now))

pub reads-init : goal.reads-init
reads-init g c = (reading_starts (most_read c.args.pace.workers) c.args.pace.turns c.in_ok-intake.intake (g.R.Source.remaining c.args.reader.now) c.args.handle.now c.in_ok-intake.ensures.0 c.in_ok-intake.ensures.1 c.in_ok-intake.ensures.2, c.requires.reader, ap length c.kept-before.ensures.value)

pub returns-in_err-messages-clause-stops : goal.returns-in_err-messages-clause-stops
returns-in_err-messages-clause-stops g c =
    err_gives c.from_residual-in_err-messages.result c.from_residual-in_err-messages.ensures
    (λ e is. subst (λ x. StopsServing x (most_read c.args.pace.workers) c.args.pace.turns (g.R.Source.remaining c.args.reader.now) (g.R.Source.remaining c.next.new.reader) c.args.handle.now c.reads.handle) (sym is)
    (intake_stops c.in_err-messages.field-0.0 (most_read c.args.pace.workers) c.args.pace.turns c.reads.intake c.next.new.self (g.R.Source.remaining c.args.reader.now) (g.R.Source.remaining c.reads.reader) (g.R.Source.remaining c.next.new.reader) c.args.handle.now c.reads.handle c.reads.invariant.0 c.in_err-messages.ensures.err))

pub returns-in_default-clause-serves : goal.returns-in_default-clause-serves
returns-in_default-clause-serves g c =
    reading_ends (most_read c.args.pace.workers) c.args.pace.turns (length c.kept.result.now - length c.kept-before.result.now) c.reads.intake c.next.new.self (g.R.Source.remaining c.args.reader.now) (g.R.Source.remaining c.reads.reader) (g.R.Source.remaining c.next.new.reader) c.args.handle.now c.reads.handle c.reads.invariant.0 (subst (λ o. MatchOption o (Ends c.reads.intake (g.R.Source.remaining c.reads.reader) (g.R.Source.remaining c.next.new.reader) c.next.new.self) (λ out. Yields c.reads.intake (g.R.Source.remaining c.reads.reader) (g.R.Source.remaining c.next.new.reader) out.items c.next.new.self)) c.in_default.is c.in_ok-messages.ensures.ok)
    (omega (arith, ap length c.kept.ensures.value, c.reads.invariant.2, receipts_count c.args.handle.now c.reads.handle c.reads.invariant.0.messages c.reads.invariant.0.all.offers))

pub reads-preserved : goal.reads-preserved
reads-preserved g c = (
  reads_on (most_read c.args.pace.workers) c.args.pace.turns c.reads.intake c.next.new.self (g.R.Source.remaining c.args.reader.now) (g.R.Source.remaining c.reads.reader) (g.R.Source.remaining c.next.new.reader) c.args.handle.now c.reads.handle c.offer_piece.new.handle c.in-Some.messages.items c.reads.invariant.0 (subst (λ o. MatchOption o (Ends c.reads.intake (g.R.Source.remaining c.reads.reader) (g.R.Source.remaining c.next.new.reader) c.next.new.self) (λ out. Yields c.reads.intake (g.R.Source.remaining c.reads.reader) (g.R.Source.remaining c.next.new.reader) out.items c.next.new.self)) c.in-Some.is c.in_ok-messages.ensures.ok) c.in_ok-offer_piece.ensures.ok,
  c.in_ok-messages.ensures.sound ∙ c.reads.invariant.1,
  c.reads.invariant.2,
)

pub returns-in_err-offer_piece-clause-stops : goal.returns-in_err-offer_piece-clause-stops
returns-in_err-offer_piece-clause-stops g c =
    err_gives c.from_residual-in_err-offer_piece.result c.from_residual-in_err-offer_piece.ensures
    (λ e is. message_stops e (most_read c.args.pace.workers) c.args.pace.turns c.reads.intake c.next.new.self (g.R.Source.remaining c.args.reader.now) (g.R.Source.remaining c.reads.reader) (g.R.Source.remaining c.next.new.reader) c.args.handle.now c.reads.handle c.offer_piece.new.handle c.in-Some.messages.items c.reads.invariant.0 (subst (λ o. MatchOption o (Ends c.reads.intake (g.R.Source.remaining c.reads.reader) (g.R.Source.remaining c.next.new.reader) c.next.new.self) (λ out. Yields c.reads.intake (g.R.Source.remaining c.reads.reader) (g.R.Source.remaining c.next.new.reader) out.items c.next.new.self)) c.in-Some.is c.in_ok-messages.ensures.ok)
    (subst (λ x. RefusesAmong x c.reads.handle c.offer_piece.new.handle c.in-Some.messages.items) (sym is) c.in_err-offer_piece.ensures.err))
