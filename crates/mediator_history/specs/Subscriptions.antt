-- The policy in force, and who is subscribed.
use Rattle.std.specs.Prelude.{ℕ, Bool, true, false, List, [], ◌∷◌, length, filter, Option, Some, None, Result, Ok, Err, if◌then◌else◌, ◌==◌}
use Rattle.std.specs.List.{flat_map}
use Rattle.sequences.specs.Before.{last_of}
use Rattle.policy_text.specs.Policies.{PolicyMeaning as Policy, nothing as no_policy}
use Rattle.policy_text.specs.Parsing.{policy_of}
use Rattle.policy_text.specs.declared.fault.Fault.{Fault as PolicyFault}
use Rattle.event_journal.specs.declared.entry.Entry.{Entry}
use Rattle.event_journal.specs.declared.entry.Entry.TheVariants.{Edit, Subscribe, Unsubscribe, Cut}

abbrev pub policy_or_none : Result Policy PolicyFault → Option Policy
policy_or_none (Ok policy) = Some policy
policy_or_none (Err fault) = None

-- the policy that an entry brings into force
abbrev pub policy_from : Entry → Option Policy
policy_from (Edit text) = policy_or_none (policy_of text)
policy_from _ = None

-- the policy of the last edit whose text is a policy (no other edit is ever accepted); before the first one a policy without rules
abbrev pub policy_in_force : List Entry → Policy
policy_in_force h = last_of policy_from no_policy h

abbrev pub texts_in : Entry → List (List ℕ)
texts_in (Edit text) = text ∷ []
texts_in _ = []

-- how many edits there were
abbrev pub edits_made : List Entry → ℕ
edits_made h = length (flat_map texts_in h)

abbrev pub named : ℕ → Entry → Option (List ℕ)
named sub (Subscribe s name) = if s == sub then Some name else None
named sub _ = None

-- the name of a subscription
abbrev pub name_of : ℕ → List Entry → List ℕ
name_of sub h = last_of (named sub) [] h

-- whether the entry begins the subscription, or ends it
abbrev pub begins : ℕ → Entry → Option Bool
begins sub (Subscribe s name) = if s == sub then Some true else None
begins sub (Unsubscribe s) = if s == sub then Some false else None
begins sub _ = None

-- subscribed, and not unsubscribed; it may be cut
abbrev pub is_live : ℕ → List Entry → Bool
is_live sub h = last_of (begins sub) false h

-- whether the entry makes the subscription get records, or ends that
abbrev pub switched : ℕ → Entry → Option Bool
switched sub (Subscribe s name) = if s == sub then Some true else None
switched sub (Unsubscribe s) = if s == sub then Some false else None
switched sub (Cut s) = if s == sub then Some false else None
switched sub _ = None

-- subscribed, not unsubscribed, and not cut
abbrev pub is_served : ℕ → List Entry → Bool
is_served sub h = last_of (switched sub) false h

abbrev pub subscribed_in : Entry → List ℕ
subscribed_in (Subscribe sub name) = sub ∷ []
subscribed_in _ = []

-- how many subscriptions there were
abbrev pub subscriptions_begun : List Entry → ℕ
subscriptions_begun h = length (flat_map subscribed_in h)

-- those that are served, in the order of their numbers, in which they came
abbrev pub served : List Entry → List ℕ
served h = filter (λ sub. is_served sub h) (flat_map subscribed_in h)
