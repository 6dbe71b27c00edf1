-- A session is open, and a subscription live, since an entry that is not undone.
use Rattle.std.proofs.Common.{◌≡◌, ℕ, Bool, true, false, cond, List, [], ◌∷◌, ◌++◌, Option, Some, None, refl, ap, ◌∙◌, inl, inr}
use Rattle.std.specs.Prelude.{◌==◌, unwrap_or}
use Rattle.std.specs.List.{AllByRecursion}
use Rattle.std.proofs.lemmas.Bool.{true≢false, eqb-true, eq-eqb, ne_eqb}
use Rattle.sequences.specs.Before.{last_of, IsLast}
use Rattle.sequences.proofs.BeforeLaws.{last_of-append, last_of-found, last_of-push}
use Rattle.flow_aggregate.specs.Closing.{closed_by}
use Rattle.event_journal.specs.declared.entry.Entry.{Entry}
use Rattle.event_journal.specs.declared.entry.Entry.TheVariants.{Open, Close, Message, Subscribe, Unsubscribe, Advance, Cut}
use Rattle.mediator_history.specs.Sessions.{opens, is_open}
use Rattle.mediator_history.specs.Subscriptions.{begins, is_live, switched, is_served}
use Rattle.mediator_history.specs.LastEntries.{StaysLive, IsBegun, StaysOpen, IsOpened}
use Rattle.mediator_history.specs.Disclosed.{given_at}
use Rattle.mediator_history.proofs.LastLaws.{all_of}
use Rattle.mediator_history.proofs.CountingLaws.{running_unserved}

-- ---- what is on since an entry

abbrev LeavesOn : (Entry → Option Bool) → Entry → Type 0
LeavesOn f e = unwrap_or (f e) true ≡ true

on_since : (f : Entry → Option Bool) (h : List Entry) → last_of f false h ≡ true → IsLast f h true
on_since f h is = elim (last_of-found f false h true is) [
  | inl last ↦ last
  | inr none ↦ absurd (true≢false none.1)
]

still_on : (f : Entry → Option Bool) (h : List Entry) → AllByRecursion (LeavesOn f) h → last_of f true h ≡ true
still_on f [] all = refl
still_on f (e ∷ h) all = ap (λ (b : Bool). last_of f b h) all.0 ∙ still_on f h all.1

on_after : (f : Entry → Option Bool) (before : List Entry) (e : Entry) (after : List Entry) → f e ≡ Some true → AllByRecursion (LeavesOn f) after → last_of f false (before ++ e ∷ after) ≡ true
on_after f before e after on all =
    last_of-append f false before (e ∷ after)
    ∙ ap (λ (o : Option Bool). last_of f (unwrap_or o (last_of f false before)) after) on
    ∙ still_on f after all

-- ---- which sessions are open

-- what an entry that opens the session is
opens_is : (session : ℕ) (e : Entry) → opens session e ≡ Some true → e ≡ Open session
opens_is session (Open s) is = by_number (s == session) refl is where
  by_number : (same : Bool) → (s == session) ≡ same → cond same (Some true) None ≡ Some true → Open s ≡ Open session
  by_number true same at = ap (λ (n : ℕ). Open n) (eqb-true s session same)
  by_number false same at = absurd cc
opens_is session (Close s) is = absurd (by_number (s == session) is) where
  by_number : (same : Bool) → cond same (Some false) None ≡ Some true → ⊥
  by_number true at = absurd cc
  by_number false at = absurd cc
opens_is session _ is = absurd cc

opened_by : (session : ℕ) → opens session (Open session) ≡ Some true
opened_by session = rw (eq-eqb session session refl) refl

stays_open : (session : ℕ) (e : Entry) → opens session e ≡ None → StaysOpen session e
stays_open session e none is =
    let off : opens session (Close session) ≡ Some false = rw (eq-eqb session session refl) refl in
    let at : opens session e ≡ Some false = ap (opens session) is ∙ off in
    absurd cc

still_open : (session : ℕ) (e : Entry) → StaysOpen session e → LeavesOn (opens session) e
still_open session (Open s) stays = by_number (s == session) where
  by_number : (same : Bool) → (let at : Option Bool = cond same (Some true) None in unwrap_or at true ≡ true)
  by_number true = refl
  by_number false = refl
still_open session (Close s) stays = rw (ne_eqb s session (λ same. stays (ap (λ (n : ℕ). Close n) same))) refl
still_open session _ stays = refl

pub open-found : (session : ℕ) (h : List Entry) → is_open session h ≡ true → IsOpened session h
open-found session h is = opened (on_since (opens session) h is) where
  opened : IsLast (opens session) h true → IsOpened session h
  opened last = record {
    before = last.front;
    after = last.back;
    history_is = last.entries_are ∙ ap (λ (e : Entry). last.front ++ e ∷ last.back) (opens_is session last.entry last.has);
    stays = all_of (stays_open session) last.back last.none_after;
  }

pub open-only : (session : ℕ) (h : List Entry) → IsOpened session h → is_open session h ≡ true
open-only session h is =
    ap (is_open session) is.history_is
    ∙ on_after (opens session) is.before (Open session) is.after (opened_by session) (all_of (still_open session) is.after is.stays)

-- ---- which subscriptions are live

-- what an entry by which the subscription begins is
begins_is : (sub : ℕ) (e : Entry) → begins sub e ≡ Some true → (name : List ℕ) × (e ≡ Subscribe sub name)
begins_is sub (Subscribe s name) is = (name, by_number (s == sub) refl is) where
  by_number : (same : Bool) → (s == sub) ≡ same → cond same (Some true) None ≡ Some true → Subscribe s name ≡ Subscribe sub name
  by_number true same at = ap (λ (n : ℕ). Subscribe n name) (eqb-true s sub same)
  by_number false same at = absurd cc
begins_is sub (Unsubscribe s) is = absurd (by_number (s == sub) is) where
  by_number : (same : Bool) → cond same (Some false) None ≡ Some true → ⊥
  by_number true at = absurd cc
  by_number false at = absurd cc
begins_is sub _ is = absurd cc

begun_by : (sub : ℕ) (name : List ℕ) → begins sub (Subscribe sub name) ≡ Some true
begun_by sub name = rw (eq-eqb sub sub refl) refl

stays_live : (sub : ℕ) (e : Entry) → begins sub e ≡ None → StaysLive sub e
stays_live sub e none is =
    let off : begins sub (Unsubscribe sub) ≡ Some false = rw (eq-eqb sub sub refl) refl in
    let at : begins sub e ≡ Some false = ap (begins sub) is ∙ off in
    absurd cc

still_live : (sub : ℕ) (e : Entry) → StaysLive sub e → LeavesOn (begins sub) e
still_live sub (Subscribe s name) stays = by_number (s == sub) where
  by_number : (same : Bool) → (let at : Option Bool = cond same (Some true) None in unwrap_or at true ≡ true)
  by_number true = refl
  by_number false = refl
still_live sub (Unsubscribe s) stays = rw (ne_eqb s sub (λ same. stays (ap (λ (n : ℕ). Unsubscribe n) same))) refl
still_live sub _ stays = refl

pub live-found : (sub : ℕ) (h : List Entry) → is_live sub h ≡ true → IsBegun sub h
live-found sub h is = begun (on_since (begins sub) h is) where
  begun : IsLast (begins sub) h true → IsBegun sub h
  begun last =
      let by = begins_is sub last.entry last.has in
      record {
        before = last.front;
        name = by.0;
        after = last.back;
        history_is = last.entries_are ∙ ap (λ (e : Entry). last.front ++ e ∷ last.back) by.1;
        stays = all_of (stays_live sub) last.back last.none_after;
      }

pub live-only : (sub : ℕ) (h : List Entry) → IsBegun sub h → is_live sub h ≡ true
live-only sub h is =
    ap (is_live sub) is.history_is
    ∙ on_after (begins sub) is.before (Subscribe sub is.name) is.after (begun_by sub is.name) (all_of (still_live sub) is.after is.stays)

-- ---- who is served no more

pub cut_is_served_no_more : (sub : ℕ) (h : List Entry) → is_served sub (h ++ Cut sub ∷ []) ≡ false
cut_is_served_no_more sub h = last_of-push (switched sub) false h (Cut sub) ∙ (rw (eq-eqb sub sub refl) refl)

pub ended_is_served_no_more : (sub : ℕ) (h : List Entry) → is_served sub (h ++ Unsubscribe sub ∷ []) ≡ false
ended_is_served_no_more sub h = last_of-push (switched sub) false h (Unsubscribe sub) ∙ (rw (eq-eqb sub sub refl) refl)

-- who is not served gets nothing from any entry
pub unserved_get_nothing : (sub : ℕ) (h : List Entry) (e : Entry) → is_served sub h ≡ false → given_at sub h e ≡ []
unfolding closed_by
unserved_get_nothing sub h (Message session number octets) off = rw off refl
unserved_get_nothing sub h (Advance t) off = ap (closed_by t) (running_unserved sub h off)
unserved_get_nothing sub h _ off = refl
