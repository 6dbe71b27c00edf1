-- Which histories are legal: each entry is one that a mediator may have accepted where it stands. What a mediator's queues, shapes,
-- audit and journal may hold is no part of it. All of this is this project's own rule.
use Rattle.std.specs.Prelude.{◌≡◌, ◌≢◌, ℕ, ◌+◌, ◌≤◌, ◌<◌, Bool, true, false, List, [], ◌∷◌, ◌++◌, length, map, Option, Some, Ok}
use Rattle.sequences.specs.Before.{last_of}
use Rattle.ipfix_session.specs.Meaning.{Meaning, meaning_of}
use Rattle.policy_text.specs.Policies.{PolicyMeaning as Policy}
use Rattle.policy_text.specs.Parsing.{policy_of}
use Rattle.policy_text.specs.Naming.{is_name}
use Rattle.event_journal.specs.declared.entry.Entry.{Entry}
use Rattle.event_journal.specs.declared.entry.Entry.TheVariants.{Open, Close, Message, Edit, Subscribe, Unsubscribe, Advance, Cut}
use Rattle.mediator_history.specs.Sessions.{is_open, messages_of, sessions_opened}
use Rattle.mediator_history.specs.Subscriptions.{name_of, is_live, is_served, subscriptions_begun}
use Rattle.mediator_history.specs.Counting.{clock_of}
use Rattle.mediator_history.specs.Disclosed.{given_at}

-- ---- entries that are no cuts: the call is not refused for itself behind a history, and a number is the next one

-- the message is the next of an open session, and it has a meaning after those before it
pub record IsNextMessage (h : List Entry) (session number : ℕ) (octets : List ℕ) : Type 0 where
  pub opened : is_open session h ≡ true
  pub turn : number ≡ length (messages_of session h)
  pub meaning : Meaning
  pub means : meaning_of (messages_of session h) octets ≡ Ok meaning

-- the text is that of a policy
pub record IsPolicyText (text : List ℕ) : Type 0 where
  pub policy : Policy
  pub spelled : policy_of text ≡ Ok policy

-- the subscription is the next, and no live one has its name
pub record IsNextSubscription (h : List Entry) (sub : ℕ) (name : List ℕ) : Type 0 where
  pub number : sub ≡ subscriptions_begun h + 1
  pub named : is_name name ≡ true
  pub free : (other : ℕ) → is_live other h ≡ true → name_of other h ≢ name

abbrev pub IsAccepted : List Entry → Entry → Type 0
IsAccepted h (Open session) = session ≡ sessions_opened h + 1
IsAccepted h (Close session) = is_open session h ≡ true
IsAccepted h (Message session number octets) = IsNextMessage h session number octets
IsAccepted h (Edit text) = IsPolicyText text
IsAccepted h (Subscribe sub name) = IsNextSubscription h sub name
IsAccepted h (Unsubscribe sub) = is_live sub h ≡ true
IsAccepted h (Advance t) = clock_of h ≤ t
IsAccepted h (Cut sub) = ⊥

-- ---- cuts

abbrev pub is_cut : Entry → Bool
is_cut (Cut sub) = true
is_cut _ = false

-- the number of the subscription that an entry cuts, and 0 of one that is no cut
abbrev pub number_cut : Entry → Option ℕ
number_cut (Cut sub) = Some sub
number_cut _ = Some 0

-- that of the last entry: of a cut directly before the next one
abbrev pub last_cut : List Entry → ℕ
last_cut h = last_of number_cut 0 h

-- the first entry behind a cut that is none itself is accepted there, and without the cut it would give its subscription records
pub record IsBorneOut (before : List Entry) (sub : ℕ) (after : List Entry) : Type 0 where
  pub others : List ℕ
  pub entry : Entry
  pub rest : List Entry
  pub after_is : after ≡ map Cut others ++ entry ∷ rest
  pub accepted : IsAccepted (before ++ Cut sub ∷ map Cut others) entry
  pub gives : given_at sub before entry ≢ []

-- the subscription is served, cuts in a row ascend, and what follows bears the cut out
pub record IsLegalCut (before : List Entry) (sub : ℕ) (after : List Entry) : Type 0 where
  pub served : is_served sub before ≡ true
  pub above : last_cut before < sub
  pub borne_out : IsBorneOut before sub after

-- ---- histories

-- an entry is legal where it stands: behind these, and before those
abbrev pub IsLegalAt : List Entry → Entry → List Entry → Type 0
IsLegalAt before (Cut sub) after = IsLegalCut before sub after
IsLegalAt before (Open session) after = IsAccepted before (Open session)
IsLegalAt before (Close session) after = IsAccepted before (Close session)
IsLegalAt before (Message session number octets) after = IsAccepted before (Message session number octets)
IsLegalAt before (Edit text) after = IsAccepted before (Edit text)
IsLegalAt before (Subscribe sub name) after = IsAccepted before (Subscribe sub name)
IsLegalAt before (Unsubscribe sub) after = IsAccepted before (Unsubscribe sub)
IsLegalAt before (Advance t) after = IsAccepted before (Advance t)

-- each of these entries is, one after another
abbrev pub AreLegal : List Entry → List Entry → List Entry → Type 0
AreLegal before [] after = Unit {0}
AreLegal before (e ∷ entries) after = IsLegalAt before e (entries ++ after) × AreLegal (before ++ e ∷ []) entries after

abbrev pub IsLegal : List Entry → Type 0
IsLegal h = AreLegal [] h []

-- all entries before this position are legal, and the one at it is not
pub record IsFirstBad (h : List Entry) (position : ℕ) : Type 0 where
  pub before : List Entry
  pub entry : Entry
  pub after : List Entry
  pub history_is : h ≡ before ++ entry ∷ after
  pub there : length before ≡ position
  pub legal_before : AreLegal [] before (entry ∷ after)
  pub bad : IsLegalAt before entry after → ⊥
