use Rattle.std.proofs.Common.{◌≡◌, [], length, refl, sym, ap, ◌∙◌, arith}
use Rattle.subscriber_stream.specs.Waiting.{items_in}
use Rattle.subscriber_stream.specs.Standing.{KeptStream}
use Rattle.subscriber_stream.proofs.Messages.{behind_none}
use Rattle.subscriber_stream.proofs.Standings.{next_is_built, next_none, stands_after_message, stands_at_end, kept_after, queued_entries}
use Rattle.std.proofs.lemmas.Bool.{eqb-true, eqb-false}
use Rattle.subscriber_stream.proofs.Pulling.{nothing_waits, nothing_in, something_in, few_wait, first_small, none_followed, queued_none, Pulls, run_is, within_is, message_is_next}
use Rattle.subscriber_stream.proofs.stream.Stream.pull_to.Goals as goal

none_waits : (c : goal.Then-is_empty) → length c.self.inside.queue.items ≡ 0
none_waits c = sym c.self.inside.queue.ok.0 ∙ eqb-true _ 0 (sym c.is_empty.ensures ∙ c.if-is_empty.true)

pub returns-then-is_empty-clause-ok : goal.returns-then-is_empty-clause-ok
returns-then-is_empty-clause-ok c =
    let none : c.args.self.now.standing.waiting ≡ [] = rw (← c.self.view_is) (nothing_waits _ _ (nothing_in _ (none_waits c))) in
    record {
      answers = λ records p at. sym (next_none c.args.now c.args.target c.args.self.now.standing.handed c.args.self.now.standing.waiting none) ∙ next_is_built c.args.self.now.standing records p c.args.now c.args.target at;
      stands = λ records p at. stands_at_end c.args.self.now.standing records p c.args.target none at;
    }

pub returns-then-is_empty-clause-end : goal.returns-then-is_empty-clause-end
returns-then-is_empty-clause-end c =
    rw (← c.self.view_is) (λ _. queued_none c.self.inside.shapes.shapes (items_in c.self.inside.queue.items) (nothing_in _ (none_waits c)), λ _. refl)

pub returns-in_err-put_message-clause-no_memory : goal.returns-in_err-put_message-clause-no_memory
returns-in_err-put_message-clause-no_memory c =
    rw (← c.self.view_is) (λ none. absurd (omega (arith, something_in _ c.self.invariant.filled (λ e. eqb-false _ 0 (sym c.is_empty.ensures ∙ c.if-is_empty.false) (c.self.inside.queue.ok.0 ∙ e)), none_followed (items_in c.self.inside.queue.items) c.self.invariant.followed (sym (queued_entries c.self.inside.shapes.shapes (items_in c.self.inside.queue.items)) ∙ none))))

pub returns-in_err-reserve-clause-no_memory : goal.returns-in_err-reserve-clause-no_memory
returns-in_err-reserve-clause-no_memory c =
    rw (← c.self.view_is) (λ none. absurd (omega (arith, something_in _ c.self.invariant.filled (λ e. eqb-false _ 0 (sym c.is_empty.ensures ∙ c.if-is_empty.false) (c.self.inside.queue.ok.0 ∙ e)), none_followed (items_in c.self.inside.queue.items) c.self.invariant.followed (sym (queued_entries c.self.inside.shapes.shapes (items_in c.self.inside.queue.items)) ∙ none))))

pulls : (c : goal.After-hand_out) → Pulls c.args.self.now c.self.inside.shapes.shapes (items_in c.self.inside.queue.items) c.self.inside.handed c.args.target c.fitting-run.result.parts
pulls c = record {
  waiting = ap (λ (k : KeptStream). k.standing.waiting) (sym c.self.view_is);
  handed_is = ap (λ (k : KeptStream). k.standing.handed) (sym c.self.view_is);
  kept = c.self.invariant.kept;
  some = something_in _ c.self.invariant.filled (λ e. eqb-false _ 0 (sym c.is_empty.ensures ∙ c.if-is_empty.false) (c.self.inside.queue.ok.0 ∙ e));
  parts = c.fitting-run.ensures.parts;
  within = c.fitting-run.ensures.within;
}

pub returns-clause-ok : goal.returns-clause-ok
returns-clause-ok c = record {
  answers = λ records p at. message_is_next _ _ _ _ c.args.now _ _ _ (pulls c) (behind_none _ _ _ (c.in_ok-reserve.ensures.items ∙ c.clear.ensures.items) c.in_ok-put_message.ensures) ∙ next_is_built c.args.self.now.standing records p c.args.now c.args.target at;
  stands = λ records p at. rw c.hand_out.ensures (stands_after_message c.args.self.now records p c.args.target c.fitting-run.result.parts (run_is _ _ _ _ _ _ (pulls c)) (within_is _ _ _ _ _ _ (pulls c)) at);
}

pub returns-clause-end : goal.returns-clause-end
returns-clause-end c =
    rw (← c.self.view_is) (λ none. absurd cc, λ none. absurd (omega (arith, (pulls c).some, none_followed (items_in c.self.inside.queue.items) c.self.invariant.followed (sym (queued_entries c.self.inside.shapes.shapes (items_in c.self.inside.queue.items)) ∙ none))))

pub returns-clause-limits : goal.returns-clause-limits
returns-clause-limits c = rw c.hand_out.ensures (kept_after c.fitting-run.result.parts c.args.self.now).0

pub returns-clause-spare : goal.returns-clause-spare
returns-clause-spare c = rw c.hand_out.ensures (kept_after c.fitting-run.result.parts c.args.self.now).1

pub fitting-run-requires-clause-few : goal.fitting-run-requires-clause-few
fitting-run-requires-clause-few c = omega (arith, few_wait _ _ _ _ _ _ c.self.invariant)

pub fitting-run-requires-clause-first : goal.fitting-run-requires-clause-first
fitting-run-requires-clause-first c = first_small _ _ c.self.invariant.kept
