use Rattle.std.proofs.Common.{◌∙◌, ℕ, List, sym, ap}
use Rattle.std.specs.Prelude.{is_some}
use Rattle.event_journal.specs.declared.entry.Entry.TheVariants.{Subscribe}
use Rattle.history_verify.specs.Parts.{live_number}
use Rattle.history_verify.proofs.FeedLaws.{on_err, not_where, where_true}
use Rattle.history_verify.proofs.SubscriberLaws.{taken_by, free_where}
use Rattle.history_verify.proofs.StepLaws.{next_number, not_next, taken_subscribe, same_subscribers}
use Rattle.history_verify.proofs.replay.Replay.subscribe.Goals as goal
use Rattle.history_verify.proofs.replay.Replay.subscribe.Goals.{then-not-is_next-via-then-not-is_next, then-not-is_next-via-else-not-is_next+then-is_taken}

pub returns-then-not-is_next-clause-err : goal.returns-then-not-is_next-clause-err
returns-then-not-is_next-clause-err c = λ h s. c.bad.ensures (Subscribe c.args.sub c.args.name.now) h s (elim c.then-not-is_next.branch [
  | then-not-is_next-via-then-not-is_next w ↦ not_next c.args.self.now.subscribers h c.args.sub c.args.name.now s.over.subscribers (not_where c.is_next.result c.is_next.ensures w.if-not-is_next.true)
  | then-not-is_next-via-else-not-is_next+then-is_taken w ↦ λ is. taken_by c.args.self.now.subscribers h c.args.name.now s.over.subscribers
      (ap (λ (n : List ℕ). is_some (live_number c.args.self.now.subscribers n)) (sym w.as_str.ensures) ∙ sym w.is_taken.ensures ∙ w.if-is_taken.true) is.free
])

pub returns-in_err-begin-clause-unchanged : goal.returns-in_err-begin-clause-unchanged
returns-in_err-begin-clause-unchanged c = on_err c.from_residual.result (same_subscribers c.args.self.now c.begin.new.self c.in_err-begin.ensures.err)

pub returns-clause-ok : goal.returns-clause-ok
returns-clause-ok c = λ h s none.
    taken_subscribe c.args.self.now c.begin.new.self h c.args.sub c.args.name.now s none
    (record {
      number = next_number c.args.self.now.subscribers h c.args.sub s.over.subscribers (where_true c.is_next.result c.is_next.ensures c.if-not-is_next.false);
      named = c.in_ok-begin.ensures.named;
      free = free_where c.args.self.now.subscribers h c.args.name.now s.over.subscribers
          (ap (λ (n : List ℕ). is_some (live_number c.args.self.now.subscribers n)) (sym c.as_str.ensures) ∙ sym c.is_taken.ensures ∙ c.if-is_taken.false);
    })
    (c.in_ok-begin.ensures.ok h s.over.subscribers)
