use Rattle.std.proofs.Common.{◌≡◌, [], sym, subst}
use Rattle.std.specs.Prelude.{MatchOption}
use Rattle.octet_io.specs.Moments.{reader_of, writer_of}
use Rattle.mediator_connections.specs.CommandInput.{EndsBehind}
use Rattle.mediator_connections.specs.Answering.{handle_of, StopsAdmin, Hears}
use Rattle.mediator_connections.proofs.Offering.{err_gives}
use Rattle.mediator_connections.proofs.Exchanging.{serving_starts, serving_on, serving_ended, serving_ends_line, serving_stops, stops_begun, stopped_hearing, stopped_replying}
use Rattle.mediator_connections.proofs.admin.serve_admin.Goals.{in-BadLine, in_default-matches}
use Rattle.mediator_connections.proofs.admin.serve_admin.Goals as goal

pub returns-in_err-input-clause-stops : goal.returns-in_err-input-clause-stops
returns-in_err-input-clause-stops g c =
    err_gives c.from_residual.result c.from_residual.ensures
    (λ e is. (
      [],
      subst (λ x. StopsAdmin x c.args.turns (reader_of (g.R.Source.remaining c.args.reader.now) (g.R.Source.remaining c.args.reader.now)) (writer_of (g.W.Sink.contents c.args.writer.now) (g.W.Sink.contents c.args.writer.now)) (g.W.Sink.has_failed c.args.writer.now) (handle_of c.args.handle.now c.args.handle.now) []) (sym is)
          (stops_begun c.args.turns (g.R.Source.remaining c.args.reader.now) (g.W.Sink.contents c.args.writer.now) (g.W.Sink.has_failed c.args.writer.now) c.args.handle.now),
    ))

pub returns-in_err-buffer-clause-stops : goal.returns-in_err-buffer-clause-stops
returns-in_err-buffer-clause-stops g c =
    err_gives c.from_residual-in_err-buffer.result c.from_residual-in_err-buffer.ensures
    (λ e is. (
      [],
      subst (λ x. StopsAdmin x c.args.turns (reader_of (g.R.Source.remaining c.args.reader.now) (g.R.Source.remaining c.args.reader.now)) (writer_of (g.W.Sink.contents c.args.writer.now) (g.W.Sink.contents c.args.writer.now)) (g.W.Sink.has_failed c.args.writer.now) (handle_of c.args.handle.now c.args.handle.now) []) (sym is)
          (stops_begun c.args.turns (g.R.Source.remaining c.args.reader.now) (g.W.Sink.contents c.args.writer.now) (g.W.Sink.has_failed c.args.writer.now) c.args.handle.now),
    ))

pub commands-init : goal.commands-init
commands-init g c =
    (tt, tt, serving_starts c.args.turns c.in_ok-input.input (g.R.Source.remaining c.args.reader.now) (g.W.Sink.contents c.args.writer.now) c.args.handle.now c.in_ok-input.ensures, c.requires.reader, c.requires.writer)

pub returns-in_err-heard-clause-stops : goal.returns-in_err-heard-clause-stops
returns-in_err-heard-clause-stops g c =
    err_gives c.from_residual-in_err-heard.result c.from_residual-in_err-heard.ensures
    (λ e is. stopped_hearing e c.in_err-heard.field-0.0 c.args.turns c.commands.input c.hear.new.input c.commands.count c.commands.sent (g.R.Source.remaining c.args.reader.now) (g.R.Source.remaining c.commands.reader) (g.R.Source.remaining c.hear.new.reader) (g.W.Sink.contents c.args.writer.now) (g.W.Sink.contents c.commands.writer) (g.W.Sink.has_failed c.commands.writer) c.args.handle.now c.commands.handle c.hear.new.handle is c.commands.invariant.2 c.in_err-heard.ensures.err c.in_err-heard.ensures.unchanged)

pub returns-in_default-clause-serves : goal.returns-in_default-clause-serves
returns-in_default-clause-serves g c =
    serving_ended c.args.turns c.commands.input c.commands.count c.commands.sent (g.R.Source.remaining c.args.reader.now) (g.R.Source.remaining c.commands.reader) (g.R.Source.remaining c.hear.new.reader) (g.W.Sink.contents c.args.writer.now) (g.W.Sink.contents c.commands.writer) c.args.handle.now c.commands.handle c.hear.new.handle c.commands.invariant.2
    (subst (λ o. MatchOption o (EndsBehind c.commands.input (g.R.Source.remaining c.commands.reader) (g.R.Source.remaining c.hear.new.reader) [] × (c.hear.new.handle ≡ c.commands.handle)) (λ heard. Hears heard.answer heard.stops c.commands.input (reader_of (g.R.Source.remaining c.commands.reader) (g.R.Source.remaining c.hear.new.reader)) c.hear.new.input (handle_of c.commands.handle c.hear.new.handle))) c.in_default.is c.in_ok-heard.ensures.ok)

pub returns-in_err-sent-clause-stops : goal.returns-in_err-sent-clause-stops
returns-in_err-sent-clause-stops g c =
    err_gives c.from_residual-in_err-sent.result c.from_residual-in_err-sent.ensures
    (λ e is. stopped_replying e c.in_err-sent.field-0.0 c.args.turns c.commands.input c.hear.new.input c.commands.count c.commands.sent (g.R.Source.remaining c.args.reader.now) (g.R.Source.remaining c.commands.reader) (g.R.Source.remaining c.hear.new.reader) (g.W.Sink.contents c.args.writer.now) (g.W.Sink.contents c.commands.writer) (g.W.Sink.contents c.reply.new.writer) (g.W.Sink.has_failed c.reply.new.writer) c.args.handle.now c.commands.handle c.hear.new.handle c.in-Some-heard.heard.answer c.in-Some-heard.heard.stops is c.commands.invariant.2
    (subst (λ o. MatchOption o (EndsBehind c.commands.input (g.R.Source.remaining c.commands.reader) (g.R.Source.remaining c.hear.new.reader) [] × (c.hear.new.handle ≡ c.commands.handle)) (λ heard. Hears heard.answer heard.stops c.commands.input (reader_of (g.R.Source.remaining c.commands.reader) (g.R.Source.remaining c.hear.new.reader)) c.hear.new.input (handle_of c.commands.handle c.hear.new.handle))) c.in-Some-heard.is c.in_ok-heard.ensures.ok)
    c.in_err-sent.ensures.err)

pub returns-then-matches-clause-serves : goal.returns-then-matches-clause-serves
returns-then-matches-clause-serves g c =
    serving_ends_line c.args.turns c.commands.input c.hear.new.input c.commands.count c.commands.sent c.in_ok-sent.sent (g.R.Source.remaining c.args.reader.now) (g.R.Source.remaining c.commands.reader) (g.R.Source.remaining c.hear.new.reader) (g.W.Sink.contents c.args.writer.now) (g.W.Sink.contents c.commands.writer) (g.W.Sink.contents c.reply.new.writer) c.args.handle.now c.commands.handle c.hear.new.handle c.in-Some-heard.heard.answer c.in-Some-heard.heard.stops c.commands.invariant.2
    (subst (λ o. MatchOption o (EndsBehind c.commands.input (g.R.Source.remaining c.commands.reader) (g.R.Source.remaining c.hear.new.reader) [] × (c.hear.new.handle ≡ c.commands.handle)) (λ heard. Hears heard.answer heard.stops c.commands.input (reader_of (g.R.Source.remaining c.commands.reader) (g.R.Source.remaining c.hear.new.reader)) c.hear.new.input (handle_of c.commands.handle c.hear.new.handle))) c.in-Some-heard.is c.in_ok-heard.ensures.ok)
    c.in_ok-sent.ensures.ok
    (elim c.match-matches.branch [ in-BadLine w ↦ w.in-BadLine.is | in_default-matches w ↦ absurd cc ])

pub returns-then-heard-clause-serves : goal.returns-then-heard-clause-serves
returns-then-heard-clause-serves g c =
    serving_stops c.args.turns c.commands.input c.hear.new.input c.commands.count c.commands.sent c.in_ok-sent.sent (g.R.Source.remaining c.args.reader.now) (g.R.Source.remaining c.commands.reader) (g.R.Source.remaining c.hear.new.reader) (g.W.Sink.contents c.args.writer.now) (g.W.Sink.contents c.commands.writer) (g.W.Sink.contents c.reply.new.writer) c.args.handle.now c.commands.handle c.hear.new.handle c.in-Some-heard.heard.answer c.in-Some-heard.heard.stops c.commands.invariant.2
    (subst (λ o. MatchOption o (EndsBehind c.commands.input (g.R.Source.remaining c.commands.reader) (g.R.Source.remaining c.hear.new.reader) [] × (c.hear.new.handle ≡ c.commands.handle)) (λ heard. Hears heard.answer heard.stops c.commands.input (reader_of (g.R.Source.remaining c.commands.reader) (g.R.Source.remaining c.hear.new.reader)) c.hear.new.input (handle_of c.commands.handle c.hear.new.handle))) c.in-Some-heard.is c.in_ok-heard.ensures.ok)
    c.in_ok-sent.ensures.ok
    c.if-heard.true

pub commands-preserved-else-heard : goal.commands-preserved-else-heard
commands-preserved-else-heard g c = (
  tt,
  tt,
  serving_on c.args.turns c.commands.input c.hear.new.input c.commands.count c.commands.sent c.in_ok-sent.sent (g.R.Source.remaining c.args.reader.now) (g.R.Source.remaining c.commands.reader) (g.R.Source.remaining c.hear.new.reader) (g.W.Sink.contents c.args.writer.now) (g.W.Sink.contents c.commands.writer) (g.W.Sink.contents c.reply.new.writer) c.args.handle.now c.commands.handle c.hear.new.handle c.in-Some-heard.heard.answer c.in-Some-heard.heard.stops c.commands.invariant.2
      (subst (λ o. MatchOption o (EndsBehind c.commands.input (g.R.Source.remaining c.commands.reader) (g.R.Source.remaining c.hear.new.reader) [] × (c.hear.new.handle ≡ c.commands.handle)) (λ heard. Hears heard.answer heard.stops c.commands.input (reader_of (g.R.Source.remaining c.commands.reader) (g.R.Source.remaining c.hear.new.reader)) c.hear.new.input (handle_of c.commands.handle c.hear.new.handle))) c.in-Some-heard.is c.in_ok-heard.ensures.ok)
      c.in_ok-sent.ensures.ok
      (λ bad. elim c.match-matches.branch [ in-BadLine w ↦ absurd cc | in_default-matches w ↦ w.in_default-matches.not-BadLine bad ])
      c.if-heard.false,
  c.in_ok-heard.ensures.sound,
  c.in_ok-sent.ensures.sound,
)

pub commands-preserved-else-heard-2 : goal.commands-preserved-else-heard-2
commands-preserved-else-heard-2 g c = (
  tt,
  tt,
  serving_on c.args.turns c.commands.input c.hear.new.input c.commands.count c.commands.sent c.in_ok-sent.sent (g.R.Source.remaining c.args.reader.now) (g.R.Source.remaining c.commands.reader) (g.R.Source.remaining c.hear.new.reader) (g.W.Sink.contents c.args.writer.now) (g.W.Sink.contents c.commands.writer) (g.W.Sink.contents c.reply.new.writer) c.args.handle.now c.commands.handle c.hear.new.handle c.in-Some-heard.heard.answer c.in-Some-heard.heard.stops c.commands.invariant.2
      (subst (λ o. MatchOption o (EndsBehind c.commands.input (g.R.Source.remaining c.commands.reader) (g.R.Source.remaining c.hear.new.reader) [] × (c.hear.new.handle ≡ c.commands.handle)) (λ heard. Hears heard.answer heard.stops c.commands.input (reader_of (g.R.Source.remaining c.commands.reader) (g.R.Source.remaining c.hear.new.reader)) c.hear.new.input (handle_of c.commands.handle c.hear.new.handle))) c.in-Some-heard.is c.in_ok-heard.ensures.ok)
      c.in_ok-sent.ensures.ok
      (λ bad. elim c.match-matches.branch [ in-BadLine w ↦ absurd cc | in_default-matches w ↦ w.in_default-matches.not-BadLine bad ])
      c.if-heard.false,
  c.in_ok-heard.ensures.sound,
  c.in_ok-sent.ensures.sound,
)

pub commands-preserved : goal.commands-preserved
commands-preserved g c = (
  tt,
  tt,
  serving_on c.args.turns c.commands.input c.hear.new.input c.commands.count c.commands.sent c.in_ok-sent.sent (g.R.Source.remaining c.args.reader.now) (g.R.Source.remaining c.commands.reader) (g.R.Source.remaining c.hear.new.reader) (g.W.Sink.contents c.args.writer.now) (g.W.Sink.contents c.commands.writer) (g.W.Sink.contents c.reply.new.writer) c.args.handle.now c.commands.handle c.hear.new.handle c.in-Some-heard.heard.answer c.in-Some-heard.heard.stops c.commands.invariant.2
      (subst (λ o. MatchOption o (EndsBehind c.commands.input (g.R.Source.remaining c.commands.reader) (g.R.Source.remaining c.hear.new.reader) [] × (c.hear.new.handle ≡ c.commands.handle)) (λ heard. Hears heard.answer heard.stops c.commands.input (reader_of (g.R.Source.remaining c.commands.reader) (g.R.Source.remaining c.hear.new.reader)) c.hear.new.input (handle_of c.commands.handle c.hear.new.handle))) c.in-Some-heard.is c.in_ok-heard.ensures.ok)
      c.in_ok-sent.ensures.ok
      (λ bad. elim c.match-matches.branch [ in-BadLine w ↦ absurd cc | in_default-matches w ↦ w.in_default-matches.not-BadLine bad ])
      c.if-heard.false,
  c.in_ok-heard.ensures.sound,
  c.in_ok-sent.ensures.sound,
)
