-- An entry that is no cut is accepted behind cuts exactly where it is accepted before them.
use Rattle.std.proofs.Common.{◌≡◌, ℕ, ◌+◌, ◌≤◌, List, [], ◌∷◌, ◌++◌, length, map, false, refl, sym, ap, ◌∙◌, subst, append-nil}
use Rattle.std.specs.List.{flat_map}
use Rattle.std.proofs.lemmas.Grind.{flat_map-append}
use Rattle.std.proofs.lemmas.List.Concat.{flat_map-cons}
use Rattle.ipfix_session.specs.Meaning.{meaning_of}
use Rattle.event_journal.specs.declared.entry.Entry.{Entry}
use Rattle.event_journal.specs.declared.entry.Entry.TheVariants.{Open, Close, Message, Edit, Subscribe, Unsubscribe, Advance, Cut}
use Rattle.mediator_history.specs.Sessions.{is_open, opened_in, sessions_opened, messages_of}
use Rattle.mediator_history.specs.Subscriptions.{begins, is_live, name_of, subscribed_in, subscriptions_begun}
use Rattle.mediator_history.specs.Counting.{clock_of}
use Rattle.mediator_history.specs.Cuts.{after_cuts}
use Rattle.mediator_history.proofs.CutLaws.{last_of-cuts, is_open-cuts, messages-cuts, name-cuts}
use Rattle.mediator_history.proofs.CountingLaws.{clock-cuts}
use Rattle.history_verify.specs.Legal.{IsAccepted}

pub list-cuts : {A : Type 0} (f : Entry → List A) → ((sub : ℕ) → f (Cut sub) ≡ []) → (h : List Entry) (subs : List ℕ) → flat_map f (after_cuts h subs) ≡ flat_map f h
list-cuts {A} f none h subs = flat_map-append f h (map Cut subs) ∙ ap (λ (t : List A). flat_map f h ++ t) (all_none subs) ∙ append-nil (flat_map f h) where
  all_none : (subs : List ℕ) → flat_map f (map Cut subs) ≡ []
  all_none [] = refl
  all_none (sub ∷ subs) = flat_map-cons f (Cut sub) (map Cut subs) ∙ ap (λ (t : List A). t ++ flat_map f (map Cut subs)) (none sub) ∙ all_none subs

pub opened-cuts : (h : List Entry) (subs : List ℕ) → sessions_opened (after_cuts h subs) ≡ sessions_opened h
opened-cuts h subs = ap (λ (t : List ℕ). length t) (list-cuts opened_in (λ s. refl) h subs)

pub begun-cuts : (h : List Entry) (subs : List ℕ) → subscriptions_begun (after_cuts h subs) ≡ subscriptions_begun h
begun-cuts h subs = ap (λ (t : List ℕ). length t) (list-cuts subscribed_in (λ s. refl) h subs)

pub live-cuts : (sub : ℕ) (h : List Entry) (subs : List ℕ) → is_live sub (after_cuts h subs) ≡ is_live sub h
live-cuts sub h subs = last_of-cuts (begins sub) false (λ s. refl) h subs

-- a history in which this all is the same accepts the same
pub accepted_by : (g h : List Entry) → sessions_opened g ≡ sessions_opened h → ((s : ℕ) → is_open s g ≡ is_open s h) → ((s : ℕ) → messages_of s g ≡ messages_of s h)
    → subscriptions_begun g ≡ subscriptions_begun h → ((s : ℕ) → is_live s g ≡ is_live s h) → ((s : ℕ) → name_of s g ≡ name_of s h) → clock_of g ≡ clock_of h
    → (e : Entry) → IsAccepted g e → IsAccepted h e
accepted_by g h opened on_open messages begun live name clock (Open session) is = is ∙ ap (λ (n : ℕ). n + 1) opened
accepted_by g h opened on_open messages begun live name clock (Close session) is = sym (on_open session) ∙ is
accepted_by g h opened on_open messages begun live name clock (Message session number octets) is = record {
  opened = sym (on_open session) ∙ is.opened;
  turn = is.turn ∙ ap (λ (ms : List (List ℕ)). length ms) (messages session);
  meaning = is.meaning;
  means = ap (λ (ms : List (List ℕ)). meaning_of ms octets) (sym (messages session)) ∙ is.means;
}
accepted_by g h opened on_open messages begun live name clock (Edit text) is = is
accepted_by g h opened on_open messages begun live name clock (Subscribe sub named) is = record {
  number = is.number ∙ ap (λ (n : ℕ). n + 1) begun;
  named = is.named;
  free = λ other on same. is.free other (live other ∙ on) (name other ∙ same);
}
accepted_by g h opened on_open messages begun live name clock (Unsubscribe sub) is = sym (live sub) ∙ is
accepted_by g h opened on_open messages begun live name clock (Advance t) is = subst (λ (n : ℕ). n ≤ t) clock is
accepted_by g h opened on_open messages begun live name clock (Cut sub) is = is

pub accepted_before : (g : List Entry) (cuts : List ℕ) (e : Entry) → IsAccepted (after_cuts g cuts) e → IsAccepted g e
accepted_before g cuts e is = accepted_by (after_cuts g cuts) g (opened-cuts g cuts) (λ s. is_open-cuts s g cuts) (λ s. messages-cuts s g cuts) (begun-cuts g cuts) (λ s. live-cuts s g cuts) (λ s. name-cuts s g cuts) (clock-cuts g cuts) e is

pub accepted_behind : (g : List Entry) (cuts : List ℕ) (e : Entry) → IsAccepted g e → IsAccepted (after_cuts g cuts) e
accepted_behind g cuts e is = accepted_by g (after_cuts g cuts) (sym (opened-cuts g cuts)) (λ s. sym (is_open-cuts s g cuts)) (λ s. sym (messages-cuts s g cuts)) (sym (begun-cuts g cuts)) (λ s. sym (live-cuts s g cuts)) (λ s. sym (name-cuts s g cuts)) (sym (clock-cuts g cuts)) e is
