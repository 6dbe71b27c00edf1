-- How much a journal may hold, and when there is room in it for more.
use Rattle.std.specs.Prelude.{ℕ, ◌+◌, ◌≤◌, List, length}
use Rattle.std.specs.List.{All}
use Rattle.event_journal.specs.declared.entry.Entry.{Entry}
use Rattle.event_journal.specs.Sizes.{history_octets}
use Rattle.event_journal.specs.Spelled.{IsSpelled}

-- the most entries that it may hold, and the most octets that they may count for
pub record JournalLimits : Type 0 where
  pub entries : ℕ
  pub octets : ℕ

-- behind so many entries, which count for so many octets, there is room for all of these, and a journal file can spell them
pub record HasRoom (limits : JournalLimits) (count octets : ℕ) (more : List Entry) : Type 0 where
  pub entries_fit : count + length more ≤ limits.entries
  pub octets_fit : octets + history_octets more ≤ limits.octets
  pub spelled : All IsSpelled more

-- the same behind the entries of a history
abbrev pub HasRoomAfter : JournalLimits → List Entry → List Entry → Type 0
HasRoomAfter limits h more = HasRoom limits (length h) (history_octets h) more
