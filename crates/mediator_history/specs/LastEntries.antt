-- Which policy is in force, what a subscription is called, whether it is live and served, and which sessions are open, each by the
-- last entry that decides it.
use Rattle.std.specs.Prelude.{◌≡◌, ◌≢◌, ◌⊎◌, ℕ, List, [], ◌∷◌, ◌++◌, Ok}
use Rattle.std.specs.List.{AllByRecursion}
use Rattle.policy_text.specs.Policies.{PolicyMeaning as Policy, nothing as no_policy}
use Rattle.policy_text.specs.Parsing.{policy_of}
use Rattle.event_journal.specs.declared.entry.Entry.{Entry}
use Rattle.event_journal.specs.declared.entry.Entry.TheVariants.{Open, Close, Edit, Subscribe, Unsubscribe, Cut}

-- ---- the policy in force

-- no edit, or one whose text is no policy
abbrev pub EditsNone : Entry → Type 0
EditsNone e = (text : List ℕ) (policy : Policy) → e ≡ Edit text → policy_of text ≢ Ok policy

-- the last edit whose text is a policy is of this one
pub record IsLastEdit (h : List Entry) (policy : Policy) : Type 0 where
  pub before : List Entry
  pub text : List ℕ
  pub after : List Entry
  pub history_is : h ≡ before ++ Edit text ∷ after
  pub spelled : policy_of text ≡ Ok policy
  pub none_after : AllByRecursion EditsNone after

-- the policy of that edit, or one without rules where there is none
abbrev pub IsPolicyInForce : List Entry → Policy → Type 0
IsPolicyInForce h policy = IsLastEdit h policy ⊎ (AllByRecursion EditsNone h × (policy ≡ no_policy))

-- ---- the name of a subscription

-- the subscription doesn't begin here
abbrev pub NamesNone : ℕ → Entry → Type 0
NamesNone sub e = (name : List ℕ) → e ≢ Subscribe sub name

-- where the subscription began last, it has this name
pub record IsLastName (sub : ℕ) (h : List Entry) (name : List ℕ) : Type 0 where
  pub before : List Entry
  pub after : List Entry
  pub history_is : h ≡ before ++ Subscribe sub name ∷ after
  pub none_after : AllByRecursion (NamesNone sub) after

-- that name, or no octets where the subscription never began
abbrev pub IsNamed : ℕ → List Entry → List ℕ → Type 0
IsNamed sub h name = IsLastName sub h name ⊎ (AllByRecursion (NamesNone sub) h × (name ≡ []))

-- ---- who is served

-- the subscription neither ends here nor is cut
abbrev pub Stays : ℕ → Entry → Type 0
Stays sub e = (e ≢ Unsubscribe sub) × (e ≢ Cut sub)

-- the subscription began, and after that it neither ended nor was cut
pub record IsSubscribed (sub : ℕ) (h : List Entry) : Type 0 where
  pub before : List Entry
  pub name : List ℕ
  pub after : List Entry
  pub history_is : h ≡ before ++ Subscribe sub name ∷ after
  pub stays : AllByRecursion (Stays sub) after

-- ---- who is live

-- the subscription doesn't end here
abbrev pub StaysLive : ℕ → Entry → Type 0
StaysLive sub e = e ≢ Unsubscribe sub

-- the subscription began, and after that it did not end
pub record IsBegun (sub : ℕ) (h : List Entry) : Type 0 where
  pub before : List Entry
  pub name : List ℕ
  pub after : List Entry
  pub history_is : h ≡ before ++ Subscribe sub name ∷ after
  pub stays : AllByRecursion (StaysLive sub) after

-- ---- which sessions are open

-- the session doesn't close here
abbrev pub StaysOpen : ℕ → Entry → Type 0
StaysOpen session e = e ≢ Close session

-- the session was opened, and after that it was not closed
pub record IsOpened (session : ℕ) (h : List Entry) : Type 0 where
  pub before : List Entry
  pub after : List Entry
  pub history_is : h ≡ before ++ Open session ∷ after
  pub stays : AllByRecursion (StaysOpen session) after
