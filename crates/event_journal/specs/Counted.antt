-- What a journal's sizes are to callers, and what a journal keeps of itself.
use Rattle.std.specs.Prelude.{◌≡◌, ℕ, ◌+◌, ◌-◌, ◌≤◌, List, length}
use Rattle.std.specs.List.{All}
use Rattle.event_journal.specs.declared.entry.Entry.{Entry}
use Rattle.event_journal.specs.declared.limits.TheConstants.{MOST_ENTRIES, MOST_OCTETS}
use Rattle.event_journal.specs.Sizes.{entry_octets, history_octets}
use Rattle.event_journal.specs.Spelled.{IsSpelled}
use Rattle.event_journal.specs.Room.{JournalLimits}

-- the number of the entries and their octets, and for how many more entries room is reserved
pub record CountedEntries : Type 0 where
  pub count : ℕ
  pub octets : ℕ
  pub limits : JournalLimits
  pub spare : ℕ

-- one entry more, in the room that was reserved
abbrev pub with_one : CountedEntries → Entry → CountedEntries
with_one t entry = record { count = t.count + 1; octets = t.octets + entry_octets entry; limits = t.limits; spare = t.spare - 1 }

-- the limits are ones that a journal may have
pub record AreLimits (limits : JournalLimits) : Type 0 where
  pub some_entries : 1 ≤ limits.entries
  pub most_entries : limits.entries ≤ MOST_ENTRIES
  pub some_octets : 1 ≤ limits.octets
  pub most_octets : limits.octets ≤ MOST_OCTETS

-- the sizes are no more than the limits allow
pub record IsWithin (t : CountedEntries) : Type 0 where
  pub ranges : AreLimits t.limits
  pub entries : t.count ≤ t.limits.entries
  pub sizes : t.octets ≤ t.limits.octets

-- a journal's sizes are those of its entries, the reserved room is there in memory, and a journal file can spell each entry
pub record IsTallyOf (entries : List Entry) (capacity : ℕ) (t : CountedEntries) : Type 0 where
  pub count : t.count ≡ length entries
  pub sizes : t.octets ≡ history_octets entries
  pub room : length entries + t.spare ≤ capacity
  pub spelled : All IsSpelled entries
