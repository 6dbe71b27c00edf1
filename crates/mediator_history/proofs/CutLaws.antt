-- What cuts in a row change of what a history says, and what a message gives before and after them.
use Rattle.std.proofs.Common.{◌≡◌, ℕ, ◌+◌, Bool, true, false, cond, List, [], ◌∷◌, ◌++◌, length, map, Option, Some, None, refl, sym, ap, ◌∙◌, append_assoc, append-nil, length-append}
use Rattle.std.specs.Prelude.{◌&&◌, ◌||◌, not, ◌==◌, filter, reverse, unwrap_or}
use Rattle.std.specs.List.{flat_map}
use Rattle.std.proofs.Math.Bool.{and-true}
use Rattle.std.proofs.lemmas.Bool.{and_right}
use Rattle.std.proofs.lemmas.Grind.{flat_map-append}
use Rattle.std.proofs.lemmas.List.{length-map, length_push, map_push}
use Rattle.std.proofs.lemmas.List.Concat.{flat_map-cons}
use Rattle.sequences.specs.Before.{each_after, each_with_before, last_of, HasNone}
use Rattle.sequences.proofs.BeforeLaws.{each_with_before-append, last_of-append, last_of-none}
use Rattle.ipfix_template.specs.DataRecord.{DataRecord}
use Rattle.ipfix_session.specs.Meaning.{meaning_of, domain_of}
use Rattle.policy_text.specs.Policies.{PolicyMeaning as Policy, nothing as no_policy}
use Rattle.flow_anonymize.specs.Outcome.{passed}
use Rattle.flow_anonymize.specs.Disclosed.{disclosure_of}
use Rattle.event_journal.specs.declared.entry.Entry.{Entry}
use Rattle.event_journal.specs.declared.entry.Entry.TheVariants.{Message, Cut}
use Rattle.disclosure_audit.specs.declared.entry.What.TheVariants.{Cut as CutOff}
use Rattle.mediator_history.specs.Numbers.{is_in}
use Rattle.mediator_history.specs.Sessions.{opens, is_open, message_in, messages_of}
use Rattle.mediator_history.specs.Subscriptions.{policy_from, policy_in_force, named, name_of, switched, is_served, subscribed_in, served}
use Rattle.mediator_history.specs.Accepted.{records_meant}
use Rattle.mediator_history.specs.Counting.{outcome_for}
use Rattle.mediator_history.specs.Disclosed.{given_at, disclosed}
use Rattle.mediator_history.specs.Auditing.{audit_entry, audit_at, audit_list, cut_entries}
use Rattle.mediator_history.specs.Cuts.{after_cuts}
use Rattle.mediator_history.proofs.ListFilters.{filter_ext, filter_filter}

pub after_cuts-push : (h : List Entry) (subs : List ℕ) (sub : ℕ) → after_cuts h (subs ++ sub ∷ []) ≡ after_cuts h subs ++ Cut sub ∷ []
after_cuts-push h subs sub = ap (λ t. h ++ t) (map_push Cut subs sub) ∙ sym (append_assoc h (map Cut subs) (Cut sub ∷ []))

pub length-cuts : (h : List Entry) (subs : List ℕ) → length (after_cuts h subs) ≡ length h + length subs
length-cuts h subs = length-append h (map Cut subs) ∙ ap (λ n. length h + n) (length-map subs Cut)

-- ---- what no cut has a word in stays

pub last_of-cuts : {B : Type 0} (f : Entry → Option B) (start : B) → ((sub : ℕ) → f (Cut sub) ≡ None) → (h : List Entry) (subs : List ℕ) → last_of f start (after_cuts h subs) ≡ last_of f start h
last_of-cuts {B} f start none h subs = last_of-append f start h (map Cut subs) ∙ last_of-none f (last_of f start h) (map Cut subs) (all_none subs) where
  all_none : (subs : List ℕ) → HasNone f (map Cut subs)
  all_none [] = tt
  all_none (sub ∷ subs) = (none sub, all_none subs)

flat_map-cuts : {A : Type 0} (f : Entry → List A) → ((sub : ℕ) → f (Cut sub) ≡ []) → (h : List Entry) (subs : List ℕ) → flat_map f (after_cuts h subs) ≡ flat_map f h
flat_map-cuts {A} f none h subs = flat_map-append f h (map Cut subs) ∙ ap (λ (t : List A). flat_map f h ++ t) (all_none subs) ∙ append-nil (flat_map f h) where
  all_none : (subs : List ℕ) → flat_map f (map Cut subs) ≡ []
  all_none [] = refl
  all_none (sub ∷ subs) = flat_map-cons f (Cut sub) (map Cut subs) ∙ ap (λ (t : List A). t ++ flat_map f (map Cut subs)) (none sub) ∙ all_none subs

pub policy-cuts : (h : List Entry) (subs : List ℕ) → policy_in_force (after_cuts h subs) ≡ policy_in_force h
policy-cuts h subs = last_of-cuts policy_from no_policy (λ sub. refl) h subs

pub name-cuts : (sub : ℕ) (h : List Entry) (subs : List ℕ) → name_of sub (after_cuts h subs) ≡ name_of sub h
name-cuts sub h subs = last_of-cuts (named sub) [] (λ s. refl) h subs

pub messages-cuts : (id : ℕ) (h : List Entry) (subs : List ℕ) → messages_of id (after_cuts h subs) ≡ messages_of id h
messages-cuts id h subs = ap reverse (flat_map-cuts (message_in id) (λ s. refl) h subs)

pub is_open-cuts : (id : ℕ) (h : List Entry) (subs : List ℕ) → is_open id (after_cuts h subs) ≡ is_open id h
is_open-cuts id h subs = last_of-cuts (opens id) false (λ s. refl) h subs

pub each-cuts : {A : Type 0} (f : List Entry → Entry → List A) → ((before : List Entry) (sub : ℕ) → f before (Cut sub) ≡ []) → (h : List Entry) (subs : List ℕ) → each_with_before f (after_cuts h subs) ≡ each_with_before f h
each-cuts {A} f none h subs = each_with_before-append f h (map Cut subs) ∙ ap (λ (t : List A). each_with_before f h ++ t) (none_of h subs) ∙ append-nil (each_with_before f h) where
  none_of : (before : List Entry) (subs : List ℕ) → each_after f before (map Cut subs) ≡ []
  none_of before [] = refl
  none_of before (sub ∷ subs) = ap (λ (t : List A). t ++ each_after f (before ++ Cut sub ∷ []) (map Cut subs)) (none before sub) ∙ none_of (before ++ Cut sub ∷ []) subs

pub disclosed-cuts : (sub : ℕ) (h : List Entry) (subs : List ℕ) → disclosed sub (after_cuts h subs) ≡ disclosed sub h
disclosed-cuts sub h subs = each-cuts (given_at sub) (λ before s. refl) h subs

-- ---- who is served still

switched_by_cuts : (sub : ℕ) (on : Bool) (subs : List ℕ) → last_of (switched sub) on (map Cut subs) ≡ (on && not (is_in sub subs))
switched_by_cuts sub on [] = sym (and-true on)
switched_by_cuts sub on (s ∷ subs) = switched_by_cuts sub (let at : Option Bool = cond (s == sub) (Some false) None in unwrap_or at on) subs ∙ by_number (s == sub) where
  by_number : (same : Bool) → ((let at : Option Bool = cond same (Some false) None in unwrap_or at on) && not (is_in sub subs)) ≡ (on && not (same || is_in sub subs))
  by_number true = sym (and_right on false refl)
  by_number false = refl

pub is_served-cuts : (sub : ℕ) (h : List Entry) (subs : List ℕ) → is_served sub (after_cuts h subs) ≡ (is_served sub h && not (is_in sub subs))
is_served-cuts sub h subs = last_of-append (switched sub) false h (map Cut subs) ∙ switched_by_cuts sub (is_served sub h) subs

pub served-cuts : (h : List Entry) (subs : List ℕ) → served (after_cuts h subs) ≡ filter (λ q. not (is_in q subs)) (served h)
served-cuts h subs =
    ap (filter (λ q. is_served q (after_cuts h subs))) (flat_map-cuts subscribed_in (λ s. refl) h subs)
    ∙ filter_ext (λ q. is_served q (after_cuts h subs)) (λ q. is_served q h && not (is_in q subs)) (λ q. is_served-cuts q h subs) (flat_map subscribed_in h)
    ∙ sym (filter_filter (λ q. not (is_in q subs)) (λ q. is_served q h) (flat_map subscribed_in h))

-- ---- what the audit names of them

named_of_cuts : (h : List Entry) (subs : List ℕ) → each_after audit_at h (map Cut subs) ≡ cut_entries (length h) subs
named_of_cuts h [] = refl
named_of_cuts h (sub ∷ subs) =
    ap (λ t. audit_entry (length h) 0 sub CutOff ∷ t) (named_of_cuts (h ++ Cut sub ∷ []) subs ∙ ap (λ n. cut_entries n subs) (length_push h (Cut sub)))

pub audit-cuts : (h : List Entry) (subs : List ℕ) → audit_list (after_cuts h subs) ≡ audit_list h ++ cut_entries (length h) subs
audit-cuts h subs = each_with_before-append audit_at h (map Cut subs) ∙ ap (λ t. audit_list h ++ t) (named_of_cuts h subs)

-- ---- what a message gives

pub given-served : (sub session number : ℕ) (octets : List ℕ) (h : List Entry) → is_served sub h ≡ true → given_at sub h (Message session number octets) ≡ flat_map (λ r. passed (outcome_for sub h (domain_of octets) r)) (records_meant (meaning_of (messages_of session h) octets))
given-served sub session number octets h on = rw on refl

pub given-unserved : (sub session number : ℕ) (octets : List ℕ) (h : List Entry) → is_served sub h ≡ false → given_at sub h (Message session number octets) ≡ []
given-unserved sub session number octets h off = rw off refl

-- what a message gives by all that it depends on
gives : Bool → List ℕ → Policy → List (List ℕ) → List ℕ → List DataRecord
gives on name policy older octets = cond on (flat_map (λ r. passed (disclosure_of name (domain_of octets) r policy.rules)) (records_meant (meaning_of older octets))) []

given_is : (sub session number : ℕ) (octets : List ℕ) (h : List Entry) → given_at sub h (Message session number octets) ≡ gives (is_served sub h) (name_of sub h) (policy_in_force h) (messages_of session h) octets
unfolding gives
given_is sub session number octets h = refl

pub given-cuts : (sub session number : ℕ) (octets : List ℕ) (h : List Entry) (subs : List ℕ) → is_in sub subs ≡ false → given_at sub (after_cuts h subs) (Message session number octets) ≡ given_at sub h (Message session number octets)
given-cuts sub session number octets h subs left =
    given_is sub session number octets (after_cuts h subs)
    ∙ ap (λ on. gives on (name_of sub (after_cuts h subs)) (policy_in_force (after_cuts h subs)) (messages_of session (after_cuts h subs)) octets) still
    ∙ ap (λ name. gives (is_served sub h) name (policy_in_force (after_cuts h subs)) (messages_of session (after_cuts h subs)) octets) (name-cuts sub h subs)
    ∙ ap (λ policy. gives (is_served sub h) (name_of sub h) policy (messages_of session (after_cuts h subs)) octets) (policy-cuts h subs)
    ∙ ap (λ older. gives (is_served sub h) (name_of sub h) (policy_in_force h) older octets) (messages-cuts session h subs)
    ∙ sym (given_is sub session number octets h) where
      still : is_served sub (after_cuts h subs) ≡ is_served sub h
      still = is_served-cuts sub h subs ∙ ap (λ cut. is_served sub h && not cut) left ∙ and-true (is_served sub h)
