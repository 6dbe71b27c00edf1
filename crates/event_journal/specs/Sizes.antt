-- The octets that a history counts for, by this project's own rule: those that its entries take in a journal file.
use Rattle.std.specs.Prelude.{◌≡◌, ℕ, ◌+◌, List, length}
use Rattle.std.specs.List.{sum_by}
use Rattle.event_journal.specs.declared.entry.Entry.{Entry}
use Rattle.event_journal.specs.declared.entry.Entry.TheVariants.{Open, Close, Message, Edit, Subscribe, Unsubscribe, Advance, Cut}

-- one octet for the kind of the entry, 8 for each number, and 4, 8 or 1 for the length of a message, a text or a name
abbrev pub entry_octets : Entry → ℕ
entry_octets (Open session) = 9
entry_octets (Close session) = 9
entry_octets (Message session number octets) = 21 + length octets
entry_octets (Edit text) = 9 + length text
entry_octets (Subscribe sub name) = 10 + length name
entry_octets (Unsubscribe sub) = 9
entry_octets (Advance t) = 9
entry_octets (Cut sub) = 9

abbrev pub history_octets : List Entry → ℕ
history_octets h = sum_by entry_octets h

-- the number of a history's entries, and their octets
pub record IsCountOf (h : List Entry) (count octets : ℕ) : Type 0 where
  pub entries : count ≡ length h
  pub sizes : octets ≡ history_octets h
