-- Marks: a place of the history each, from one on, that say which have their receipt.
use Rattle.std.specs.Prelude.{◌≡◌, ℕ, ◌+◌, ◌<◌, Bool, List, length, filter, Some, slice_get}
use Rattle.event_journal.specs.declared.entry.Entry.{Entry}
use Rattle.mediator_history.specs.Numbers.{is_in}
use Rattle.shared_mediator.specs.declared.kept.KeptEntry.{KeptEntry}
use Rattle.shared_mediator.specs.Receipts.{positions, all_kept, AreReceipts}

pub record Marked : Type 0 where
  pub from : ℕ
  pub marks : List Bool

abbrev pub marked_as : ℕ → List Bool → Marked
marked_as from marks = record { from = from; marks = marks }

-- the handles' receipts stand in the history, and the marks, from the place up to the history's end, say where
pub record AreMarked (m : Marked) (h : List Entry) (handles : List (List KeptEntry)) : Type 0 where
  pub as_long : m.from + length m.marks ≡ length h
  pub receipts : AreReceipts m.from h handles
  pub marked : (i : ℕ) → i < length m.marks → slice_get m.marks i ≡ Some (is_in (m.from + i) (positions (all_kept handles)))

-- how many places are marked
abbrev pub marked_count : Marked → ℕ
marked_count m = length (filter (λ b. b) m.marks)
