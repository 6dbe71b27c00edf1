-- What a journal is to its callers.
use Rattle.std.specs.Prelude.{ℕ, ◌-◌, List, [], ◌∷◌, ◌++◌}
use Rattle.event_journal.specs.declared.entry.Entry.{Entry}
use Rattle.event_journal.specs.Room.{JournalLimits}

-- its entries, oldest first, its limits, and for how many more entries room in memory is reserved
pub record KeptJournal : Type 0 where
  pub entries : List Entry
  pub limits : JournalLimits
  pub spare : ℕ

-- one entry more, behind the others, in the room that was reserved
abbrev pub with_entry : KeptJournal → Entry → KeptJournal
with_entry k entry = record { entries = k.entries ++ entry ∷ []; limits = k.limits; spare = k.spare - 1 }
