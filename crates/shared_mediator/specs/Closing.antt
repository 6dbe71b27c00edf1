-- What is so where a mediator is given back.
use Rattle.std.specs.Prelude.{◌≡◌, ℕ, List, ◌∷◌, ◌++◌, map, length, take, sum_by}
use Rattle.event_journal.specs.declared.entry.Entry.{Entry}
use Rattle.shared_mediator.specs.declared.kept.KeptEntry.{KeptEntry}
use Rattle.shared_mediator.specs.Receipts.{all_kept, AreReceipts, AreComplete, IsFirstRefused}
use Rattle.shared_mediator.specs.Counted.{has_receipt}
use Rattle.shared_mediator.specs.declared.fault.Fault.{Fault}
use Rattle.shared_mediator.specs.declared.fault.Fault.TheVariants.{MissingHandle, Mismatch, OutOfMemory}
use Rattle.shared_mediator.specs.Locked.{Locked, Exporting, Delivering}
use Rattle.shared_mediator.specs.Handles.{AreSessionMessages, records_kept}

-- what the handles keep, the exporters' first
abbrev pub receipts_of : List Exporting → List (List KeptEntry) → List (List KeptEntry)
receipts_of exporters admins = map (λ h. h.kept) exporters ++ admins

-- an exporter's receipts are those of its session's messages, from the first on
abbrev pub KeepsMessages : Exporting → Type 0
KeepsMessages h = AreSessionMessages h.session 0 h.kept

-- how many messages the exporters have receipts of
abbrev pub messages_accepted : List Exporting → ℕ
messages_accepted exporters = length (all_kept (map (λ h. h.kept) exporters))

-- how many entries all have receipts of
abbrev pub entries_kept : List Exporting → List (List KeptEntry) → ℕ
entries_kept exporters admins = length (all_kept (receipts_of exporters admins))

-- how many records the deliveries' messages have
abbrev pub records_handed : List Delivering → ℕ
records_handed deliveries = sum_by (λ h. records_kept h.kept) deliveries

-- the history goes on from the entries before; each receipt stands in it behind these; and each entry since that is to have a receipt
-- has its own
pub record HasReceipts (before h : List Entry) (handles : List (List KeptEntry)) : Type 0 where
  pub begins : take (length before) h ≡ before
  pub receipts : AreReceipts (length before) h handles
  pub complete : AreComplete has_receipt (length before) h handles

-- as many handles of each kind as were made
pub record AreAll (d : Locked) (exporters deliveries admins : ℕ) : Type 0 where
  pub exporters_are : exporters ≡ d.exporters
  pub deliveries_are : deliveries ≡ d.deliveries
  pub admins_are : admins ≡ d.admins

-- a handle is missing, or else the receipts don't stand there or memory ran out
abbrev pub RefusesClosing : Fault → Locked → ℕ → ℕ → ℕ → Type 0
RefusesClosing MissingHandle d exporters deliveries admins = AreAll d exporters deliveries admins → ⊥
RefusesClosing _ d exporters deliveries admins = AreAll d exporters deliveries admins

-- the handle of this number has a receipt of this position, which is the first of all that is none of the history's beside those before it
pub record IsMismatch (from : ℕ) (h : List Entry) (handles : List (List KeptEntry)) (handle position : ℕ) : Type 0 where
  pub before : List (List KeptEntry)
  pub kept : List KeptEntry
  pub after : List (List KeptEntry)
  pub handles_are : handles ≡ before ++ kept ∷ after
  pub number : handle ≡ length before
  pub first_refused : IsFirstRefused from h before kept position

-- a mismatch names the handle and the position
abbrev pub NamesReceipt : Fault → ℕ → List Entry → List (List KeptEntry) → Type 0
NamesReceipt (Mismatch handle position) from h handles = IsMismatch from h handles handle position
NamesReceipt MissingHandle from h handles = Unit {0}
NamesReceipt OutOfMemory from h handles = Unit {0}

-- the same, in some history that goes on from the entries before
pub record NamesReceiptBehind (before : List Entry) (e : Fault) (handles : List (List KeptEntry)) : Type 0 where
  pub history : List Entry
  pub begins : take (length before) history ≡ before
  pub names : NamesReceipt e (length before) history handles
