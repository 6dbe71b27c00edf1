use Rattle.std.proofs.Common.{◌≡◌, List, length, drop, sym, ap, ◌∙◌, subst, arith, length-append}
use Rattle.shared_mediator.specs.declared.handed.Handed.{Handed}
use Rattle.shared_mediator.specs.Handles.{KeepsQueued, PullsQueued}
use Rattle.octet_io.specs.Moments.{writer_of}
use Rattle.mediator_connections.specs.Delivering.{DeliversSome, StopsSending, handed_octets}
use Rattle.mediator_connections.proofs.Offering.{err_gives}
use Rattle.mediator_connections.proofs.Sending.{pulled_queued, sends_on, sends_inside}
use Rattle.mediator_connections.proofs.delivery.send_messages.Goals as goal

pub send_all-requires : goal.send_all-requires
send_all-requires g c =
    let since : c.kept_since.result.now ≡ drop (length c.pulls.handle.kept) c.pull_queued.new.self.kept = c.kept_since.ensures ∙ ap (λ (l : List Handed). drop (length l) c.pull_queued.new.self.kept) c.kept-before.ensures in
    let k : KeepsQueued (g.C.Clock.shows c.args.clock.now) c.args.target 46 c.pulls.handle c.pull_queued.new.self = subst (λ b. PullsQueued (g.C.Clock.shows c.args.clock.now) c.args.target 46 b c.pulls.handle c.pull_queued.new.self) c.if-not-goes_on.false c.in_ok-goes_on.ensures.pulls in
    let p = pulled_queued (g.C.Clock.shows c.args.clock.now) c.args.target c.pulls.handle c.pull_queued.new.self c.kept_since.result.now k c.ranges.target.fits since in
    record { fits = omega (arith, c.if-sent.false, p.short, k.few, ap (λ (l : List Handed). length l) since) }

pub returns-in_err-sent-clause-stops : goal.returns-in_err-sent-clause-stops
returns-in_err-sent-clause-stops g c =
    let since : c.kept_since.result.now ≡ drop (length c.pulls.handle.kept) c.pull_queued.new.self.kept = c.kept_since.ensures ∙ ap (λ (l : List Handed). drop (length l) c.pull_queued.new.self.kept) c.kept-before.ensures in
    let k : KeepsQueued (g.C.Clock.shows c.args.clock.now) c.args.target 46 c.pulls.handle c.pull_queued.new.self = subst (λ b. PullsQueued (g.C.Clock.shows c.args.clock.now) c.args.target 46 b c.pulls.handle c.pull_queued.new.self) c.if-not-goes_on.false c.in_ok-goes_on.ensures.pulls in
    let messages = c.kept_since.result.now in
    let p = pulled_queued (g.C.Clock.shows c.args.clock.now) c.args.target c.pulls.handle c.pull_queued.new.self messages k c.ranges.target.fits since in
    let holds = g.W.Sink.contents c.pulls.writer in
    let writes = g.W.Sink.contents c.send_all.new.writer in
    let failed = g.W.Sink.has_failed c.send_all.new.writer in
    err_gives c.from_residual-in_err-sent.result c.from_residual-in_err-sent.ensures
    (λ e is. sends_inside e (g.C.Clock.shows c.args.clock.now) c.args.target c.pulls.sent c.args.handle.now c.pulls.handle c.pull_queued.new.self messages (g.W.Sink.contents c.args.writer.now) holds writes failed c.pulls.invariant.2 p
    (omega (arith, k.few, ap (λ (l : List Handed). length l) since))
    (subst (λ x. StopsSending x (handed_octets messages) c.pulls.sent holds writes failed) (sym is) c.in_err-sent.ensures.err))

pub pulls-preserved : goal.pulls-preserved
pulls-preserved g c =
    let since : c.kept_since.result.now ≡ drop (length c.pulls.handle.kept) c.pull_queued.new.self.kept = c.kept_since.ensures ∙ ap (λ (l : List Handed). drop (length l) c.pull_queued.new.self.kept) c.kept-before.ensures in
    let k : KeepsQueued (g.C.Clock.shows c.args.clock.now) c.args.target 46 c.pulls.handle c.pull_queued.new.self = subst (λ b. PullsQueued (g.C.Clock.shows c.args.clock.now) c.args.target 46 b c.pulls.handle c.pull_queued.new.self) c.if-not-goes_on.false c.in_ok-goes_on.ensures.pulls in
    let messages = c.kept_since.result.now in
    let p = pulled_queued (g.C.Clock.shows c.args.clock.now) c.args.target c.pulls.handle c.pull_queued.new.self messages k c.ranges.target.fits since in
    let holds = g.W.Sink.contents c.pulls.writer in
    let writes = g.W.Sink.contents c.send_all.new.writer in (
      tt,
      tt,
      sends_on (g.C.Clock.shows c.args.clock.now) c.args.target c.pulls.sent c.in_ok-sent.sent c.args.handle.now c.pulls.handle c.pull_queued.new.self messages (g.W.Sink.contents c.args.writer.now) holds writes c.pulls.invariant.2 p c.in_ok-sent.ensures.ok,
      c.in_ok-sent.ensures.stays ∙ c.pulls.invariant.3,
    )

pub kept_since-requires : goal.kept_since-requires
kept_since-requires g c =
    let k : KeepsQueued (g.C.Clock.shows c.args.clock.now) c.args.target 46 c.pulls.handle c.pull_queued.new.self = subst (λ b. PullsQueued (g.C.Clock.shows c.args.clock.now) c.args.target 46 b c.pulls.handle c.pull_queued.new.self) c.if-not-goes_on.false c.in_ok-goes_on.ensures.pulls in
    omega (arith, ap (λ (l : List Handed). length l) c.kept-before.ensures, ap (λ (l : List Handed). length l) k.kept.kept, length-append c.pulls.handle.kept (drop (length c.pulls.handle.kept) c.pull_queued.new.self.kept))

pub returns-then-not-goes_on-clause-delivers : goal.returns-then-not-goes_on-clause-delivers
returns-then-not-goes_on-clause-delivers g c =
    let same : c.pull_queued.new.self ≡ c.pulls.handle = subst (λ b. PullsQueued (g.C.Clock.shows c.args.clock.now) c.args.target 46 b c.pulls.handle c.pull_queued.new.self) c.if-not-goes_on.true c.in_ok-goes_on.ensures.pulls in
    subst (λ d. DeliversSome (g.C.Clock.shows c.args.clock.now) c.args.target c.pulls.sent c.args.handle.now d (writer_of (g.W.Sink.contents c.args.writer.now) (g.W.Sink.contents c.pulls.writer))) (sym same) c.pulls.invariant.2
