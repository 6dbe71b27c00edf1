-- The histories that a replay stands for, and those that a verifier was fed.
use Rattle.std.specs.Prelude.{◌≡◌, ◌≢◌, ℕ, ◌+◌, ◌*◌, ◌<◌, ◌≤◌, ◌^◌, Bool, true, List, [], ◌∷◌, ◌++◌, length, Option, Some, None}
use Rattle.std.specs.List.{AllByRecursion}
use Rattle.ipfix_template.specs.DataRecord.{DataRecord}
use Rattle.ipfix_session.specs.ReadAhead.{Ahead, IsReadingOf}
use Rattle.event_journal.specs.declared.limits.TheConstants.{MOST_ENTRIES}
use Rattle.event_journal.specs.declared.entry.Entry.{Entry}
use Rattle.event_journal.specs.declared.entry.Entry.TheVariants.{Cut}
use Rattle.mediator_history.specs.Sessions.{messages_of}
use Rattle.mediator_history.specs.Subscriptions.{policy_in_force, is_served}
use Rattle.mediator_history.specs.Counting.{clock_of, running}
use Rattle.mediator_history.specs.Disclosed.{disclosed}
use Rattle.mediator_history.specs.Auditing.{audit_list}
use Rattle.mediator_history.specs.Cuts.{after_cuts}
use Rattle.history_verify.specs.declared.replay.Replay.{Replay}
use Rattle.history_verify.specs.declared.verifier.Verifier.{Verifier}
use Rattle.history_verify.specs.declared.fault.Fault.{Fault}
use Rattle.history_verify.specs.declared.fault.Fault.TheVariants.{BadHistory, OutOfMemory}
use Rattle.history_verify.specs.Legal.{IsAccepted, AreLegal, last_cut}
use Rattle.history_verify.specs.Parts.{AreExporters, AreSubscribers, AreSums, IsTurn, AreNoted}

-- ---- cuts that wait

-- a cut may stand here, if what follows bears it out
pub record MayCut (h : List Entry) (sub : ℕ) : Type 0 where
  pub served : is_served sub h ≡ true
  pub above : last_cut h < sub

-- so may each of these cuts, one after another
abbrev pub MayCutAll : List Entry → List ℕ → Type 0
MayCutAll h [] = Unit {0}
MayCutAll h (sub ∷ subs) = MayCut h sub × MayCutAll (h ++ Cut sub ∷ []) subs

-- the first of these subscriptions to which nothing is given, by its place, or none
pub record IsFirstEmpty (gives : ℕ → List DataRecord) (subs : List ℕ) (place : ℕ) : Type 0 where
  pub front : List ℕ
  pub sub : ℕ
  pub back : List ℕ
  pub subs_are : subs ≡ front ++ sub ∷ back
  pub there : length front ≡ place
  pub others : AllByRecursion (λ s. gives s ≢ []) front
  pub empty : gives sub ≡ []

abbrev pub IsFirstOr : (ℕ → List DataRecord) → List ℕ → Option ℕ → Type 0
IsFirstOr gives subs None = AllByRecursion (λ s. gives s ≢ []) subs
IsFirstOr gives subs (Some place) = IsFirstEmpty gives subs place

-- ---- a replay

-- a history that is legal whatever comes behind it, and doesn't end in a cut
pub record IsSettled (h : List Entry) : Type 0 where
  pub legal : (after : List Entry) → AreLegal [] h after
  pub closed : last_cut h ≡ 0

-- no count comes near its end: no message brings more than 2^32 records, and no group closes but for a record that counted
pub record IsCountable (h : List Entry) : Type 0 where
  pub listed : (sub : ℕ) → length (disclosed sub h) + length (running sub h) ≤ 2 ^ 32 * length h

-- the replay stands for this history and, behind it, the cuts that wait
pub record StandsOver (r : Replay) (settled h : List Entry) : Type 0 where
  pub is_settled : IsSettled settled
  pub history_is : h ≡ after_cuts settled r.waiting.items
  pub waiting : MayCutAll settled r.waiting.items
  pub position : r.position ≡ length h
  pub policy : r.in_force.policy ≡ policy_in_force h
  pub clock : r.in_force.clock ≡ clock_of h
  pub exporters : AreExporters r.exporters h
  pub subscribers : AreSubscribers r.subscribers h
  pub sums : AreSums r.sums settled
  pub audit : AreNoted r.audit (audit_list h)
  pub small : IsCountable h

-- the replay stands for the history, whose last cuts wait
pub record Repeats (r : Replay) (h : List Entry) : Type 0 where
  pub settled : List Entry
  pub over : StandsOver r settled h

-- so it does for some history, which is no longer than a journal may be
pub record StandsShort (r : Replay) : Type 0 where
  pub history : List Entry
  pub stands : Repeats r history
  pub short : length history ≤ MOST_ENTRIES

-- ---- what the steps of a replay answer

-- it stands for the same histories, and the same cuts wait
pub record IsSameReplay (old new : Replay) : Type 0 where
  pub waiting : new.waiting.items ≡ old.waiting.items
  pub stands : (h : List Entry) → Repeats old h → Repeats new h

-- it stands for the history with the entry behind it, and no cut waits
pub record HasTaken (new : Replay) (h : List Entry) (entry : Entry) : Type 0 where
  pub none_wait : new.waiting.items ≡ []
  pub stands : Repeats new (h ++ entry ∷ [])

-- so it is behind each history for which it stands, where no cut waits
abbrev pub TakesNext : Replay → Entry → Replay → Type 0
TakesNext old entry new = (h : List Entry) → Repeats old h → old.waiting.items ≡ [] → HasTaken new h entry

-- the first entry behind those that are settled is named, and this one, which is no cut, is not accepted; or memory ran out
abbrev pub RefusesEntry : Fault → Replay → List Entry → Entry → Type 0
RefusesEntry (BadHistory position) r h entry = (position + length r.waiting.items ≡ length h) × (IsAccepted h entry → ⊥)
RefusesEntry OutOfMemory r h entry = Unit {0}

abbrev pub RefusesNext : Fault → Replay → Entry → Type 0
RefusesNext e r entry = (h : List Entry) → Repeats r h → RefusesEntry e r h entry

-- ---- messages

-- it was read of the session's next message
pub record IsReadOf (h : List Entry) (session number : ℕ) (octets : List ℕ) (reading : Ahead) : Type 0 where
  pub turn : IsTurn h session number
  pub read : IsReadingOf (messages_of session h) octets reading

-- ---- a verifier

-- the audit's entries are wanted
abbrev pub keeps_audit : Verifier → Bool
keeps_audit v = v.replay.audit.wanted

-- the first of these cuts, if there are some, may not stand behind the history
abbrev pub IsSpoilt : List Entry → List ℕ → Type 0
IsSpoilt h [] = Unit {0}
IsSpoilt h (sub ∷ subs) = MayCut h sub → ⊥

-- the verifier was fed what its replay stands for, and behind it these cuts
pub record IsFedOver (v : Verifier) (front : List Entry) (cuts : List ℕ) (h : List Entry) : Type 0 where
  pub stands : Repeats v.replay front
  pub count : v.behind ≡ length cuts
  pub history_is : h ≡ after_cuts front cuts
  pub spoilt : IsSpoilt front cuts

pub record IsFed (v : Verifier) (h : List Entry) : Type 0 where
  pub front : List Entry
  pub cuts : List ℕ
  pub over : IsFedOver v front cuts h

-- it was fed some history, which is no longer than a journal may be
pub record IsFedShort (v : Verifier) : Type 0 where
  pub history : List Entry
  pub fed : IsFed v history
  pub short : length history ≤ MOST_ENTRIES

-- cuts wait or the first of those behind may not stand there, and the position of the first of all of these is named
abbrev pub NamesWaiting : Fault → Verifier → Type 0
NamesWaiting (BadHistory position) v = (position + length v.replay.waiting.items ≡ v.replay.position) × (0 < length v.replay.waiting.items + v.behind)
NamesWaiting OutOfMemory v = ⊥

-- the first cut that isn't borne out is named by its place among those that wait; or the first of those behind
abbrev pub NamesUnborne : Fault → Verifier → Option ℕ → Type 0
NamesUnborne (BadHistory position) v (Some place) = position + length v.replay.waiting.items ≡ v.replay.position + place
NamesUnborne (BadHistory position) v None = (position ≡ v.replay.position) × (0 < v.behind)
NamesUnborne OutOfMemory v place = ⊥
