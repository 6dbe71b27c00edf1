-- What is so whenever the lock is taken.
use Rattle.std.specs.Prelude.{◌≡◌, ℕ, ◌+◌, ◌*◌, ◌≤◌, List, length, take}
use Rattle.event_journal.specs.declared.entry.Entry.{Entry}
use Rattle.shared_mediator.specs.Counted.{receipts_since, handed_of}
use Rattle.shared_mediator.specs.Locked.{Locked, Ledgered}

-- The journal begins with the entries that were there before, and one book's total is how many entries with a receipt came since, the
-- other's how many records were handed out. Each book's parts are one for each handle that was given one, and those not given out
-- yet, which have no amount.
pub record AreBooksKept (all : ℕ) (before : List Entry) (all_handed : ℕ) (d : Locked) (entries handed : Ledgered) : Type 0 where
  pub from : d.counted.from ≡ length before
  pub begins : take (length before) d.counted.core.history ≡ before
  pub entries_are : entries.total ≡ receipts_since d.counted
  pub handed_are : handed.total ≡ handed_of d.counted
  pub entry_parts : entries.parts_left + d.exporters + d.admins ≡ all
  pub entries_idle : entries.amount_left ≡ 0
  pub record_parts : handed.parts_left + d.deliveries ≡ all_handed
  pub records_idle : handed.amount_left ≡ 0
  pub enough_entries : all ≡ 2 * d.handles + 1
  pub enough_records : all_handed ≡ d.handles + 1
  pub few_exporters : d.exporters ≤ d.handles
  pub few_deliveries : d.deliveries ≤ d.handles
  pub few_admins : d.admins ≤ d.handles
