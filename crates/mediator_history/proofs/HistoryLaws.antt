-- What one entry more changes of what a history says, and what it leaves.
use Rattle.std.proofs.Common.{◌≡◌, ℕ, ◌+◌, false, List, [], ◌∷◌, ◌++◌, ap, ◌∙◌, append-nil}
use Rattle.std.specs.List.{flat_map}
use Rattle.std.proofs.lemmas.Grind.{flat_map-append}
use Rattle.std.proofs.lemmas.List.Concat.{flat_map-cons}
use Rattle.std.proofs.lemmas.List.Sums.{sum_by_push}
use Rattle.sequences.proofs.BeforeLaws.{each_with_before-push, last_of-push}
use Rattle.policy_text.specs.Policies.{nothing as no_policy}
use Rattle.event_journal.specs.declared.entry.Entry.{Entry}
use Rattle.event_journal.specs.declared.entry.Entry.TheVariants.{Message}
use Rattle.event_journal.specs.Sizes.{entry_octets, history_octets}
use Rattle.mediator_history.specs.Subscriptions.{policy_from, policy_in_force, named, name_of, switched, is_served, subscribed_in}
use Rattle.mediator_history.specs.Accepted.{accepted_at, accepted}
use Rattle.mediator_history.specs.Disclosed.{given_at, disclosed}
use Rattle.mediator_history.specs.Auditing.{audit_at, audit_list}

-- f of one more item stands behind f of the others
pub flat_map-push : {X A : Type 0} (f : X → List A) (xs : List X) (x : X) → flat_map f (xs ++ x ∷ []) ≡ flat_map f xs ++ f x
flat_map-push f xs x = flat_map-append f xs (x ∷ []) ∙ ap (λ t. flat_map f xs ++ t) (flat_map-cons f x [] ∙ append-nil (f x))

-- ---- a message changes neither the policy in force nor the names, nor who is served

pub policy-message : (h : List Entry) (session number : ℕ) (octets : List ℕ) → policy_in_force (h ++ Message session number octets ∷ []) ≡ policy_in_force h
policy-message h session number octets = last_of-push policy_from no_policy h (Message session number octets)

pub name-message : (sub : ℕ) (h : List Entry) (session number : ℕ) (octets : List ℕ) → name_of sub (h ++ Message session number octets ∷ []) ≡ name_of sub h
name-message sub h session number octets = last_of-push (named sub) [] h (Message session number octets)

pub is_served-message : (sub : ℕ) (h : List Entry) (session number : ℕ) (octets : List ℕ) → is_served sub (h ++ Message session number octets ∷ []) ≡ is_served sub h
is_served-message sub h session number octets = last_of-push (switched sub) false h (Message session number octets)

pub subscribed-message : (h : List Entry) (session number : ℕ) (octets : List ℕ) → flat_map subscribed_in (h ++ Message session number octets ∷ []) ≡ flat_map subscribed_in h
subscribed-message h session number octets = flat_map-push subscribed_in h (Message session number octets) ∙ append-nil (flat_map subscribed_in h)

-- ---- each entry adds what it gives

pub accepted-push : (h : List Entry) (e : Entry) → accepted (h ++ e ∷ []) ≡ accepted h ++ accepted_at h e
accepted-push h e = each_with_before-push accepted_at h e

pub disclosed-push : (sub : ℕ) (h : List Entry) (e : Entry) → disclosed sub (h ++ e ∷ []) ≡ disclosed sub h ++ given_at sub h e
disclosed-push sub h e = each_with_before-push (given_at sub) h e

pub audit-push : (h : List Entry) (e : Entry) → audit_list (h ++ e ∷ []) ≡ audit_list h ++ audit_at h e
audit-push h e = each_with_before-push audit_at h e

pub octets-push : (h : List Entry) (e : Entry) → history_octets (h ++ e ∷ []) ≡ history_octets h + entry_octets e
octets-push h e = sum_by_push entry_octets h e
