use Rattle.std.proofs.Common.{arith, sym, ◌∙◌}
use Rattle.event_journal.specs.declared.entry.Entry.TheVariants.{Advance}
use Rattle.mediator_history.specs.Disclosed.{given_at}
use Rattle.history_verify.proofs.UnborneLaws.{empty_list, first_seen}
use Rattle.history_verify.proofs.replay.Replay.unborne_at.Goals as goal

pub returns-then-is_empty-clause-first : goal.returns-then-is_empty-clause-first
returns-then-is_empty-clause-first c = λ g h so.
    first_seen (λ sub. given_at sub g (Advance c.args.t)) c.args.self.now.waiting.items c.deref-sub-items.result.now c.waiting.place _ c.deref-sub-items.ensures.value
    (omega (arith, c.waiting-test.true)) (c.waiting.invariant g h so)
    (sym (c.in_ok-share.ensures.given g so.sums) ∙ empty_list c.in_ok-share.share.given c.is_empty.result c.is_empty.ensures c.if-is_empty.true)
