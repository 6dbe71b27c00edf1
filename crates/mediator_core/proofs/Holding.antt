-- What is known of a subscription's messages, call by call.
use Rattle.std.proofs.Common.{◌≡◌, ℕ, ◌+◌, ◌<◌, ◌≤◌, ◌^◌, Bool, true, false, cond, List, [], ◌∷◌, ◌++◌, length, map, Option, Some, None, refl, sym, ap, ◌∙◌, subst, append_assoc, append-nil, arith, length-append}
use Rattle.std.specs.Prelude.{◌≢◌, ◌==◌, unwrap_or}
use Rattle.std.specs.List.{flat_map}
use Rattle.std.proofs.lemmas.Bool.{false≢true, eqb-true, eqb-false, eq-eqb, ne_eqb}
use Rattle.std.proofs.lemmas.Grind.{flat_map-append}
use Rattle.sequences.specs.Before.{each_after, last_of, HasNone}
use Rattle.sequences.proofs.BeforeLaws.{each_with_before-append, last_of-append, last_of-none, last_of-push}
use Rattle.ipfix_template.specs.DataRecord.{DataRecord}
use Rattle.subscriber_stream.specs.Calls.{Pull as Asked, octets_from}
use Rattle.subscriber_stream.specs.Message.{built, place_after}
use Rattle.stream_meaning.specs.Served.{messages_in, place_from}
use Rattle.stream_meaning.specs.HandedOut.{AreHandedOut}
use Rattle.stream_meaning.proofs.Handing.{none_handed_out, handed_given, handed_answer}
use Rattle.event_journal.specs.declared.entry.Entry.{Entry}
use Rattle.event_journal.specs.declared.entry.Entry.TheVariants.{Open, Close, Message, Edit, Subscribe, Unsubscribe, Advance, Cut}
use Rattle.mediator_history.specs.Subscriptions.{begins, is_live, subscribed_in, subscriptions_begun}
use Rattle.mediator_history.specs.Disclosed.{given_at, disclosed}
use Rattle.mediator_calls.specs.declared.limits.Limits.{Limits}
use Rattle.mediator_calls.specs.declared.call.Call.{Call}
use Rattle.mediator_calls.specs.declared.call.Call.TheVariants as call
use Rattle.mediator_calls.specs.declared.call.Reply.{Reply}
use Rattle.mediator_calls.specs.declared.call.Reply.TheVariants as reply
use Rattle.mediator_calls.specs.Mediation.{Mediation, started, place_at}
use Rattle.mediator_calls.specs.Calls.{GoesOn, Subscribes, Unsubscribes, Pulls}
use Rattle.mediator_core.specs.Runs.{Answers, answer_in, asked_in}

-- the messages are all that it was handed, up to a place, which is its own while it is live, and the start before it begins
pub record Holds (sub : ℕ) (m : Mediation) (messages : List (List ℕ)) (p : ℕ) : Type 0 where
  pub handed : AreHandedOut messages (disclosed sub m.history) p
  pub place : is_live sub m.history ≡ true → p ≡ place_at m sub
  pub unbegun : subscriptions_begun m.history < sub → (p ≡ 0) × (is_live sub m.history ≡ false)

pub holds_first : (limits : Limits) (sub : ℕ) → Holds sub (started limits) [] 0
holds_first limits sub = record {
  handed = none_handed_out;
  place = λ on. absurd (false≢true on);
  unbegun = λ before. (refl, refl);
}

-- ---- entries

-- the entries begin no subscription with this number
abbrev BeginsNone : ℕ → List Entry → List Entry → Type 0
BeginsNone sub h more = is_live sub (h ++ more) ≡ true → is_live sub h ≡ true

stays_off : (sub : ℕ) (h more : List Entry) → BeginsNone sub h more → is_live sub h ≡ false → is_live sub (h ++ more) ≡ false
stays_off sub h more none off = by_test (is_live sub (h ++ more)) refl where
  by_test : (b : Bool) → is_live sub (h ++ more) ≡ b → is_live sub (h ++ more) ≡ false
  by_test true is = let on : is_live sub h ≡ true = none is in absurd cc
  by_test false is = is

unswitched : (sub : ℕ) (h more : List Entry) → HasNone (begins sub) more → BeginsNone sub h more
unswitched sub h more none on = sym (last_of-append (begins sub) false h more ∙ last_of-none (begins sub) (is_live sub h) more none) ∙ on

cuts_switch_none : (sub : ℕ) (entry : Entry) (subs : List ℕ) → begins sub entry ≡ None → HasNone (begins sub) (map Cut subs ++ entry ∷ [])
cuts_switch_none sub entry [] none = (none, tt)
cuts_switch_none sub entry (x ∷ xs) none = (refl, cuts_switch_none sub entry xs none)

-- an end begins none
ends_none : (sub s : ℕ) (h : List Entry) → BeginsNone sub h (Unsubscribe s ∷ [])
ends_none sub s h on = by_number (s == sub) (sym (last_of-push (begins sub) false h (Unsubscribe s)) ∙ on) where
  by_number : (same : Bool) → (let at : Option Bool = cond same (Some false) None in unwrap_or at (is_live sub h) ≡ true) → is_live sub h ≡ true
  by_number true is = absurd (false≢true is)
  by_number false is = is

-- one that begins begins no other
begins_other : (sub n : ℕ) (name : List ℕ) (h : List Entry) → (n == sub) ≡ false → BeginsNone sub h (Subscribe n name ∷ [])
begins_other sub n name h other on = by_number (n == sub) other (sym (last_of-push (begins sub) false h (Subscribe n name)) ∙ on) where
  by_number : (same : Bool) → same ≡ false → (let at : Option Bool = cond same (Some true) None in unwrap_or at (is_live sub h) ≡ true) → is_live sub h ≡ true
  by_number true is at = absurd (false≢true (sym is))
  by_number false is at = at

begun_more : (h more : List Entry) → subscriptions_begun h ≤ subscriptions_begun (h ++ more)
begun_more h more = rw (flat_map-append subscribed_in h more) (omega (arith, length-append (flat_map subscribed_in h) (flat_map subscribed_in more)))

-- what was handed out of what was disclosed is handed out of what is disclosed then
handed_on : (sub : ℕ) (h g more : List Entry) (messages : List (List ℕ)) (p : ℕ) → g ≡ h ++ more → AreHandedOut messages (disclosed sub h) p → AreHandedOut messages (disclosed sub g) p
handed_on sub h g more messages p is are =
    subst (λ (records : List DataRecord). AreHandedOut messages records p) (sym (ap (disclosed sub) is ∙ each_with_before-append (given_at sub) h more)) (handed_given messages (disclosed sub h) (each_after (given_at sub) h more) p are)

holds_on : (sub : ℕ) (old new : Mediation) (more : List Entry) (messages : List (List ℕ)) (p : ℕ) → GoesOn old more new → BeginsNone sub old.history more → Holds sub old messages p → Holds sub new messages p
holds_on sub old new more messages p on none h = record {
  handed = handed_on sub old.history new.history more messages p on.history h.handed;
  place = λ live. h.place (none (ap (is_live sub) (sym on.history) ∙ live)) ∙ sym (on.places sub live);
  unbegun = λ before. let was = h.unbegun (omega (arith, before, ap subscriptions_begun on.history, begun_more old.history more)) in
      (was.0, ap (is_live sub) on.history ∙ stays_off sub old.history more none was.1);
}

-- a subscription that begins
holds_begun : (sub n : ℕ) (old new : Mediation) (name : List ℕ) (messages : List (List ℕ)) (p : ℕ) → Subscribes old name n new → Holds sub old messages p → Holds sub new messages p
holds_begun sub n old new name messages p begun h = by_number (n == sub) refl where
  on : GoesOn old (Subscribe n name ∷ []) new
  on = begun.goes_on

  count : subscriptions_begun new.history ≡ subscriptions_begun old.history + 1
  count = ap subscriptions_begun on.history ∙ ap (λ (l : List ℕ). length l) (flat_map-append subscribed_in old.history (Subscribe n name ∷ [])) ∙ length-append (flat_map subscribed_in old.history) (n ∷ [])

  by_number : (same : Bool) → (n == sub) ≡ same → Holds sub new messages p
  by_number false other = holds_on sub old new (Subscribe n name ∷ []) messages p on (begins_other sub n name old.history other) h
  by_number true same =
      let is : n ≡ sub = eqb-true n sub same in
      let start : p ≡ 0 = (h.unbegun (omega (arith, begun.number, is))).0 in
      record {
        handed = handed_on sub old.history new.history (Subscribe n name ∷ []) messages p on.history h.handed;
        place = λ live. start ∙ sym begun.start ∙ ap (place_at new) is;
        unbegun = λ before. absurd (omega (arith, before, count, begun.number, is));
      }

-- ---- calls that leave the history

holds_same : (sub : ℕ) (old new : Mediation) (messages : List (List ℕ)) (p : ℕ) → new.history ≡ old.history → place_at new sub ≡ place_at old sub → Holds sub old messages p → Holds sub new messages p
holds_same sub old new messages p same placed h = record {
  handed = subst (λ (g : List Entry). AreHandedOut messages (disclosed sub g) p) (sym same) h.handed;
  place = λ live. h.place (ap (is_live sub) (sym same) ∙ live) ∙ sym placed;
  unbegun = λ before. let was = h.unbegun (omega (arith, before, ap subscriptions_begun same)) in (was.0, ap (is_live sub) same ∙ was.1);
}

-- ---- a call and its reply

-- what a call adds to what is known
pub record HoldsAfter (sub : ℕ) (old : Mediation) (c : Call) (r : Reply) (new : Mediation) (messages : List (List ℕ)) (p : ℕ) : Type 0 where
  pub after : Holds sub new (messages ++ messages_in (answer_in sub c r)) (place_from p (asked_in sub old c r))
  pub answers : answer_in sub c r ≡ octets_from p (asked_in sub old c r)

-- nothing was handed out
kept : (sub : ℕ) (new : Mediation) (messages : List (List ℕ)) (p : ℕ) → Holds sub new messages p → Holds sub new (messages ++ []) p
kept sub new messages p h = subst (λ (ms : List (List ℕ)). Holds sub new ms p) (sym (append-nil messages)) h

-- what a pull adds
record PulledAfter (sub : ℕ) (new : Mediation) (messages : List (List ℕ)) (p : ℕ) (answers : List (Option (List ℕ))) (asked : List Asked) : Type 0 where
  pub after : Holds sub new (messages ++ messages_in answers) (place_from p asked)
  pub answered : answers ≡ octets_from p asked

pulled_by : (sub s now target : ℕ) (answer : Option (List ℕ)) (old new : Mediation) (messages : List (List ℕ)) (p : ℕ) → Pulls old s now target answer new → Holds sub old messages p → (same : Bool) → (s == sub) ≡ same
    → PulledAfter sub new messages p (cond same (answer ∷ []) []) (cond same (record { now = now; target = target; records = disclosed sub old.history } ∷ []) [])
pulled_by sub s now target answer old new messages p pulled h false other = record {
  after = kept sub new messages p (holds_same sub old new messages p pulled.history (pulled.others sub (λ same. eqb-false s sub other (sym same))) h);
  answered = refl;
}
pulled_by sub s now target answer old new messages p pulled h true same =
    let is : s ≡ sub = eqb-true s sub same in
    let live : is_live sub old.history ≡ true = subst (λ (n : ℕ). is_live n old.history ≡ true) is pulled.live in
    let place : p ≡ place_at old sub = h.place live in
    let message : answer ≡ built (disclosed sub old.history) p now target =
    subst (λ (n : ℕ). answer ≡ built (disclosed n old.history) (place_at old n) now target) is pulled.message ∙ ap (λ (q : ℕ). built (disclosed sub old.history) q now target) (sym place) in
    let moved : place_after (disclosed sub old.history) p target ≡ place_at new sub =
    ap (λ (q : ℕ). place_after (disclosed sub old.history) q target) place ∙ sym (subst (λ (n : ℕ). place_at new n ≡ place_after (disclosed n old.history) (place_at old n) target) is pulled.moved) in
    record {
      after = record {
        handed = subst (λ (g : List Entry). AreHandedOut (messages ++ messages_in (answer ∷ [])) (disclosed sub g) (place_after (disclosed sub old.history) p target)) (sym pulled.history)
            (handed_answer messages answer (disclosed sub old.history) p now target pulled.time pulled.size h.handed message);
        place = λ on. moved;
        unbegun = λ before. let was = h.unbegun (omega (arith, before, ap subscriptions_begun pulled.history)) in absurd (false≢true (sym was.1 ∙ live));
      };
      answered = ap (λ (a : Option (List ℕ)). a ∷ []) message;
    }

-- a call that hands out nothing
silent : (sub : ℕ) (old : Mediation) (c : Call) (r : Reply) (new : Mediation) (messages : List (List ℕ)) (p : ℕ) → answer_in sub c r ≡ [] → asked_in sub old c r ≡ [] → Holds sub new messages p → HoldsAfter sub old c r new messages p
silent sub old c r new messages p unanswered unasked h = record {
  after = subst (λ (answers : List (Option (List ℕ))). Holds sub new (messages ++ messages_in answers) (place_from p (asked_in sub old c r))) (sym unanswered)
      (subst (λ (asked : List Asked). Holds sub new (messages ++ []) (place_from p asked)) (sym unasked) (kept sub new messages p h));
  answers = unanswered ∙ ap (octets_from p) (sym unasked);
}

refused_holds : (sub : ℕ) (old new : Mediation) (messages : List (List ℕ)) (p : ℕ) → new ≡ old → Holds sub old messages p → Holds sub new messages p
refused_holds sub old new messages p same h = subst (λ (m : Mediation). Holds sub m messages p) (sym same) h

pub holds_after : (sub : ℕ) (old : Mediation) (c : Call) (r : Reply) (new : Mediation) (messages : List (List ℕ)) (p : ℕ) → Answers old c r new → Holds sub old messages p → HoldsAfter sub old c r new messages p
holds_after sub old call.Open (reply.Opened session) new messages p is h =
    silent sub old call.Open (reply.Opened session) new messages p refl refl (holds_on sub old new (Open session.0 ∷ []) messages p is.goes_on (unswitched sub old.history (Open session.0 ∷ []) (refl, tt)) h)
holds_after sub old (call.Close session) reply.Closed new messages p is h =
    silent sub old (call.Close session) reply.Closed new messages p refl refl (holds_on sub old new (Close session.0 ∷ []) messages p is.goes_on (unswitched sub old.history (Close session.0 ∷ []) (refl, tt)) h)
holds_after sub old (call.Receive session number message) (reply.Received receipt) new messages p is h =
    silent sub old (call.Receive session number message) (reply.Received receipt) new messages p refl refl
    (holds_on sub old new _ messages p is.goes_on (unswitched sub old.history _ (cuts_switch_none sub (Message session.0 number message) _ refl)) h)
holds_after sub old (call.Edit text) (reply.Edited revision) new messages p is h =
    silent sub old (call.Edit text) (reply.Edited revision) new messages p refl refl (holds_on sub old new _ messages p is.goes_on (unswitched sub old.history _ (refl, tt)) h)
holds_after sub old (call.Subscribe name) (reply.Subscribed s) new messages p is h =
    silent sub old (call.Subscribe name) (reply.Subscribed s) new messages p refl refl (holds_begun sub s.0 old new _ messages p is h)
holds_after sub old (call.Unsubscribe s) reply.Unsubscribed new messages p is h =
    silent sub old (call.Unsubscribe s) reply.Unsubscribed new messages p refl refl (holds_on sub old new (Unsubscribe s.0 ∷ []) messages p is.goes_on (ends_none sub s.0 old.history) h)
holds_after sub old (call.Advance t) reply.Advanced new messages p is h =
    silent sub old (call.Advance t) reply.Advanced new messages p refl refl
    (holds_on sub old new _ messages p is.goes_on (unswitched sub old.history _ (cuts_switch_none sub (Advance t) _ refl)) h)
holds_after sub old (call.Pull s now target) (reply.Pulled answer) new messages p is h =
    let one = pulled_by sub s.0 now target answer old new messages p is h (s.0 == sub) refl in
    record { after = one.after; answers = one.answered }
holds_after sub old (call.Status s) (reply.Stands status) new messages p is h =
    silent sub old (call.Status s) (reply.Stands status) new messages p refl refl (refused_holds sub old new messages p is.1 h)
holds_after sub old (call.DrainAudit most) (reply.Drained out) new messages p is h =
    silent sub old (call.DrainAudit most) (reply.Drained out) new messages p refl refl (holds_same sub old new messages p is.history (is.places sub) h)
holds_after sub old call.Open (reply.Refused why) new messages p is h = silent sub old call.Open (reply.Refused why) new messages p refl refl (refused_holds sub old new messages p is.1 h)
holds_after sub old (call.Close session) (reply.Refused why) new messages p is h = silent sub old (call.Close session) (reply.Refused why) new messages p refl refl (refused_holds sub old new messages p is.1 h)
holds_after sub old (call.Receive session number message) (reply.Refused why) new messages p is h =
    silent sub old (call.Receive session number message) (reply.Refused why) new messages p refl refl (refused_holds sub old new messages p is.1 h)
holds_after sub old (call.Edit text) (reply.Refused why) new messages p is h = silent sub old (call.Edit text) (reply.Refused why) new messages p refl refl (refused_holds sub old new messages p is.1 h)
holds_after sub old (call.Subscribe name) (reply.Refused why) new messages p is h = silent sub old (call.Subscribe name) (reply.Refused why) new messages p refl refl (refused_holds sub old new messages p is.1 h)
holds_after sub old (call.Unsubscribe s) (reply.Refused why) new messages p is h = silent sub old (call.Unsubscribe s) (reply.Refused why) new messages p refl refl (refused_holds sub old new messages p is.1 h)
holds_after sub old (call.Advance t) (reply.Refused why) new messages p is h = silent sub old (call.Advance t) (reply.Refused why) new messages p refl refl (refused_holds sub old new messages p is.1 h)
holds_after sub old (call.Pull s now target) (reply.Refused why) new messages p is h = silent sub old (call.Pull s now target) (reply.Refused why) new messages p refl refl (refused_holds sub old new messages p is.1 h)
holds_after sub old (call.Status s) (reply.Refused why) new messages p is h = silent sub old (call.Status s) (reply.Refused why) new messages p refl refl (refused_holds sub old new messages p is.1 h)
holds_after sub old (call.DrainAudit most) (reply.Refused why) new messages p is h = silent sub old (call.DrainAudit most) (reply.Refused why) new messages p refl refl (refused_holds sub old new messages p is.1 h)
holds_after sub old _ _ new messages p is h = absurd is
