-- That the octets of a history and the reading of octets are one format.
use Rattle.std.specs.Prelude.{◌≡◌, ℕ, ◌^◌, ◌<◌, ◌≤◌, true, List, ◌++◌, length, Ok}
use Rattle.std.specs.Str.{IsUtf8}
use Rattle.std.specs.List.{All}
use Rattle.sequences.specs.Octets.{AreOctets}
use Rattle.policy_text.specs.Naming.{is_name}
use Rattle.event_journal.specs.declared.entry.Entry.{Entry}
use Rattle.event_journal.specs.declared.entry.Entry.TheVariants.{Open, Close, Message, Edit, Subscribe, Unsubscribe, Advance, Cut}
use Rattle.event_journal.specs.declared.limits.TheConstants.{MOST_ENTRIES, MOST_OCTETS}
use Rattle.event_journal.specs.Sizes.{history_octets}
use Rattle.journal_files.specs.Format.{octets_of, file_octets}
use Rattle.journal_files.specs.Reading.{entry_of, file_of}

-- What an entry of a journal is by the types of the code, and what `room` asks of a message: numbers have 64 bits, a text is UTF-8
-- and a name is a name, and each length fits its octets.
abbrev pub IsWritten : Entry → Type 0
IsWritten (Open session) = session < 2 ^ 64
IsWritten (Close session) = session < 2 ^ 64
IsWritten (Message session number octets) = (session < 2 ^ 64) × (number < 2 ^ 64) × (length octets < 2 ^ 32)
IsWritten (Edit text) = (length text < 2 ^ 64) × IsUtf8 text
IsWritten (Subscribe sub name) = (sub < 2 ^ 64) × (is_name name ≡ true)
IsWritten (Unsubscribe sub) = sub < 2 ^ 64
IsWritten (Advance t) = t < 2 ^ 64
IsWritten (Cut sub) = sub < 2 ^ 64

-- a history within the greatest limits that a journal may have
pub record IsFile (h : List Entry) : Type 0 where
  pub written : All IsWritten h
  pub entries : length h ≤ MOST_ENTRIES
  pub octets : history_octets h ≤ MOST_OCTETS

-- an entry that is written is read as itself, whatever follows
abbrev pub EntryReadBack : Type 0
EntryReadBack = (entry : Entry) (rest : List ℕ) → IsWritten entry → entry_of (octets_of entry ++ rest) ≡ Ok (entry, rest)

-- an entry that is read is written by the octets that it was read from
abbrev pub EntryWrittenBack : Type 0
EntryWrittenBack = (octets rest : List ℕ) (entry : Entry) → AreOctets octets → entry_of octets ≡ Ok (entry, rest) → octets ≡ octets_of entry ++ rest

-- a file that is written says its history
abbrev pub FileReadBack : Type 0
FileReadBack = (h : List Entry) → IsFile h → file_of (file_octets h) ≡ Ok h

-- a file that says a history is that history's file: there is one file for each history
abbrev pub FileWrittenBack : Type 0
FileWrittenBack = (octets : List ℕ) (h : List Entry) → AreOctets octets → file_of octets ≡ Ok h → octets ≡ file_octets h
