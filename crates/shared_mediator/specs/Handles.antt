-- What handles keep.
use Rattle.std.specs.Prelude.{◌≡◌, ℕ, ◌+◌, ◌≤◌, Bool, true, false, List, [], ◌∷◌, ◌++◌, length, take, drop, sum_by, Option, Some, None}
use Rattle.std.specs.List.{AllByRecursion}
use Rattle.ipfix_template.specs.DataRecord.{DataRecord}
use Rattle.subscriber_stream.specs.Parts.{parts, records_of_parts}
use Rattle.subscriber_stream.specs.Message.{built, parts_taken}
use Rattle.stream_meaning.specs.Served.{AreStreamable}
use Rattle.event_journal.specs.declared.entry.Entry.{Entry}
use Rattle.event_journal.specs.declared.entry.Entry.TheVariants.{Message}
use Rattle.mediator_state.specs.declared.fault.Fault.{Fault as MediatorFault}
use Rattle.mediator_state.specs.declared.fault.Fault.TheVariants as fault
use Rattle.shared_mediator.specs.declared.kept.KeptEntry.{KeptEntry}
use Rattle.shared_mediator.specs.declared.handed.Handed.{Handed}
use Rattle.shared_mediator.specs.Locked.{Delivering}
use Rattle.shared_mediator.specs.Counted.{has_receipt}

-- ---- entries

abbrev pub HasReceipt : KeptEntry → Type 0
HasReceipt k = has_receipt k.entry ≡ true

-- the session's message of this number
pub record IsSessionMessage (session number : ℕ) (k : KeptEntry) : Type 0 where
  pub octets : List ℕ
  pub entry_is : k.entry ≡ Message session number octets

-- the session's messages, from this number on
abbrev pub AreSessionMessages : ℕ → ℕ → List KeptEntry → Type 0
AreSessionMessages session number [] = Unit {0}
AreSessionMessages session number (k ∷ kept) = IsSessionMessage session number k × AreSessionMessages session (number + 1) kept

-- one part, as much as it keeps receipts, which are those of the session's messages from the first on
pub record IsExporting (session : ℕ) (kept : List KeptEntry) (parts share : ℕ) : Type 0 where
  pub part : parts ≡ 1
  pub amount : share ≡ length kept
  pub messages : AreSessionMessages session 0 kept

-- one part, as much as it keeps entries
pub record IsAdministering (kept : List KeptEntry) (parts share : ℕ) : Type 0 where
  pub part : parts ≡ 1
  pub amount : share ≡ length kept
  pub entries : AllByRecursion HasReceipt kept

-- the entry is kept behind the others, with a position
pub record KeepsEntry (old : List KeptEntry) (entry : Entry) (new : List KeptEntry) : Type 0 where
  pub position : ℕ
  pub kept : new ≡ old ++ record { position = position; entry = entry } ∷ []

-- ---- why a call may be refused, whatever the mediator

-- a message may be refused so: for its session, its number, its octets, the templates by which it was prepared, or for want of room or
-- of memory
abbrev pub MayRefuseOffer : MediatorFault → Type 0
MayRefuseOffer fault.UnknownSession = Unit {0}
MayRefuseOffer (fault.OutOfTurn expected) = Unit {0}
MayRefuseOffer (fault.Malformed why) = Unit {0}
MayRefuseOffer fault.Stale = Unit {0}
MayRefuseOffer fault.JournalFull = Unit {0}
MayRefuseOffer (fault.AuditFull need room) = Unit {0}
MayRefuseOffer fault.OutOfMemory = Unit {0}
MayRefuseOffer _ = ⊥

-- a pull may be refused so: for its subscription, or for want of room in the count or of memory
abbrev pub MayRefusePull : MediatorFault → Type 0
MayRefusePull fault.UnknownSub = Unit {0}
MayRefusePull fault.HandedFull = Unit {0}
MayRefusePull fault.OutOfMemory = Unit {0}
MayRefusePull _ = ⊥

-- ---- records

abbrev pub records_kept : List Handed → ℕ
records_kept kept = sum_by (λ h. h.records) kept

-- one part, as much as its messages have records
pub record IsDelivering (kept : List Handed) (parts share : ℕ) : Type 0 where
  pub part : parts ≡ 1
  pub amount : share ≡ records_kept kept

-- the message is the one built for this Export Time and target at some place of some list that can be streamed, and these are its
-- records
pub record IsBuilt (now target : ℕ) (h : Handed) : Type 0 where
  pub listed : List DataRecord
  pub streamable : AreStreamable listed
  pub place : ℕ
  pub message : Some h.message ≡ built listed place now target
  pub records : h.records ≡ length (records_of_parts (take (parts_taken listed place target) (drop place (parts listed))))

-- the message is such a one, and is kept behind the others; or there is none
abbrev pub KeepsHanded : List Handed → ℕ → ℕ → Option Handed → List Handed → Type 0
KeepsHanded old now target None new = new ≡ old
KeepsHanded old now target (Some h) new = IsBuilt now target h × (new ≡ old ++ h ∷ [])

-- the messages are such ones, and are kept behind the others, in their order
pub record KeepsSome (old : List Handed) (now target : ℕ) (messages new : List Handed) : Type 0 where
  pub built : AllByRecursion (IsBuilt now target) messages
  pub kept : new ≡ old ++ messages

-- messages are kept behind the others, at most so many, each built for the target and for one Export Time, which the clock may show
pub record KeepsQueued (Shows : ℕ → Type 0) (target most : ℕ) (old new : Delivering) : Type 0 where
  pub sub : new.sub ≡ old.sub
  pub now : ℕ
  pub shown : Shows now
  pub kept : KeepsSome old.kept now target (drop (length old.kept) new.kept) new.kept
  pub few : length (drop (length old.kept) new.kept) ≤ most

-- so it is where something was queued; where nothing will be, nothing has changed
abbrev pub PullsQueued : (ℕ → Type 0) → ℕ → ℕ → Bool → Delivering → Delivering → Type 0
PullsQueued Shows target most true old new = KeepsQueued Shows target most old new
PullsQueued Shows target most false old new = new ≡ old
