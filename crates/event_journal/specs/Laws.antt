-- How room is used up, one entry after another.
use Rattle.std.specs.Prelude.{◌≡◌, ◌↔◌, ℕ, ◌+◌, List, [], ◌∷◌, ◌++◌}
use Rattle.event_journal.specs.declared.entry.Entry.{Entry}
use Rattle.event_journal.specs.Sizes.{entry_octets, history_octets}
use Rattle.event_journal.specs.Room.{JournalLimits, HasRoom}

-- the octets of histories in a row add up
abbrev pub OctetsAddUp : Type 0
OctetsAddUp = (h more : List Entry) → history_octets (h ++ more) ≡ history_octets h + history_octets more

-- there is room for entries in a row exactly where there is room for the first, and behind it for the others
abbrev pub RoomInTurn : Type 0
RoomInTurn = (limits : JournalLimits) (count octets : ℕ) (first : Entry) (others : List Entry)
    → HasRoom limits count octets (first ∷ others) ↔ (HasRoom limits count octets (first ∷ []) × HasRoom limits (count + 1) (octets + entry_octets first) others)
