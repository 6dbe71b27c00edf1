-- The octets of a journal file, by this project's own rule. Numbers are in network byte order.
use Rattle.std.specs.Prelude.{ℕ, List, [], ◌∷◌, ◌++◌, length}
use Rattle.std.specs.List.{flat_map}
use Rattle.sequences.specs.Octets.{be_value, be_octets}
use Rattle.event_journal.specs.declared.entry.Entry.{Entry}
use Rattle.event_journal.specs.declared.entry.Entry.TheVariants.{Open, Close, Message, Edit, Subscribe, Unsubscribe, Advance, Cut}

-- a file begins with the letters IPMJ
abbrev pub magic : ℕ
magic = be_value (73 ∷ 80 ∷ 77 ∷ 74 ∷ [])

-- and then has the version of its format
abbrev pub version : ℕ
version = 1

-- what stands before the entries: the letters, the version, and the number of the entries
abbrev pub head_octets : ℕ → List ℕ
head_octets count = be_octets 4 magic ++ be_octets 2 version ++ be_octets 8 count

-- an entry: the octet of its kind, and its numbers; a message, a text or a name stands behind its length
abbrev pub octets_of : Entry → List ℕ
octets_of (Open session) = 1 ∷ be_octets 8 session
octets_of (Close session) = 2 ∷ be_octets 8 session
octets_of (Message session number octets) = 3 ∷ (be_octets 8 session ++ (be_octets 8 number ++ (be_octets 4 (length octets) ++ octets)))
octets_of (Edit text) = 4 ∷ (be_octets 8 (length text) ++ text)
octets_of (Subscribe sub name) = 5 ∷ (be_octets 8 sub ++ (be_octets 1 (length name) ++ name))
octets_of (Unsubscribe sub) = 6 ∷ be_octets 8 sub
octets_of (Advance t) = 7 ∷ be_octets 8 t
octets_of (Cut sub) = 8 ∷ be_octets 8 sub

-- entries, one after another
abbrev pub history_in_octets : List Entry → List ℕ
history_in_octets h = flat_map octets_of h

-- the file of a history
abbrev pub file_octets : List Entry → List ℕ
file_octets h = head_octets (length h) ++ history_in_octets h
