-- What contracts see of what lies under the lock, and of the handles.
use Rattle.std.specs.Prelude.{ℕ, Bool, List}
use Rattle.shared_mediator.specs.declared.kept.KeptEntry.{KeptEntry}
use Rattle.shared_mediator.specs.declared.handed.Handed.{Handed}
use Rattle.shared_mediator.specs.Counted.{CountedMediation}

-- the counted mediator, how many handles of each kind there may be, how many were made, whether all is to stop, and whether a call was
-- refused since the journal is full
pub record Locked : Type 0 where
  pub counted : CountedMediation
  pub handles : ℕ
  pub exporters : ℕ
  pub deliveries : ℕ
  pub admins : ℕ
  pub stopped : Bool
  pub full : Bool

abbrev pub locked_as : CountedMediation → ℕ → ℕ → ℕ → ℕ → Bool → Bool → Locked
locked_as counted handles exporters deliveries admins stopped full = record {
  counted = counted;
  handles = handles;
  exporters = exporters;
  deliveries = deliveries;
  admins = admins;
  stopped = stopped;
  full = full;
}

-- a book's total, and the parts and the amount of the share that isn't given out
pub record Ledgered : Type 0 where
  pub total : ℕ
  pub parts_left : ℕ
  pub amount_left : ℕ

abbrev pub ledgered_as : ℕ → ℕ → ℕ → Ledgered
ledgered_as total parts amount = record { total = total; parts_left = parts; amount_left = amount }

-- an exporter's session, and what it keeps
pub record Exporting : Type 0 where
  pub session : ℕ
  pub kept : List KeptEntry

abbrev pub exporting_as : ℕ → List KeptEntry → Exporting
exporting_as session kept = record { session = session; kept = kept }

-- a delivery's subscription, and the messages that it keeps
pub record Delivering : Type 0 where
  pub sub : ℕ
  pub kept : List Handed

abbrev pub delivering_as : ℕ → List Handed → Delivering
delivering_as sub kept = record { sub = sub; kept = kept }
