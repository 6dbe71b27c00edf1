-- What the octets of a file say, or their first fault, judged from the front, which is this project's own rule. A number, and what a
-- length announces, is judged when it is whole: a file that ends before is cut off. An entry is judged when it is whole.
use Rattle.std.specs.Prelude.{ℕ, zero, suc, ◌+◌, Bool, true, false, List, [], ◌∷◌, ◌++◌, length, take, drop, Result, Ok, Err, IfErr, nat_lt, ◌==◌, ◌||◌, if◌then◌else◌}
use Rattle.std.specs.Str.{is_utf8}
use Rattle.sequences.specs.Octets.{be_value}
use Rattle.sequences.specs.Results.{◌>>=◌, GivesBut}
use Rattle.policy_text.specs.Naming.{is_name}
use Rattle.event_journal.specs.declared.entry.Entry.{Entry}
use Rattle.event_journal.specs.declared.entry.Entry.TheVariants.{Open, Close, Message, Edit, Subscribe, Unsubscribe, Advance, Cut}
use Rattle.event_journal.specs.declared.limits.TheConstants.{MOST_ENTRIES, MOST_OCTETS}
use Rattle.event_journal.specs.Sizes.{entry_octets, history_octets}
use Rattle.journal_files.specs.declared.fault.Fault.{Fault}
use Rattle.journal_files.specs.declared.fault.Fault.TheVariants.{BadMagic, BadVersion, Truncated, BadEntry, Read, Write, OutOfMemory}
use Rattle.journal_files.specs.Faults.{IsDecodingFault}
use Rattle.journal_files.specs.Format.{magic, version}

-- what was read at the front, and the octets after it; or the first fault
abbrev pub Finding : Type 0 → Type 0
Finding A = Result (A × List ℕ) Fault

-- so many octets
unfoldable pub front_of : ℕ → List ℕ → Finding (List ℕ)
front_of n octets = if nat_lt (length octets) n then Err Truncated else Ok (take n octets, drop n octets)

-- a number in so many octets
unfoldable pub front_number : ℕ → List ℕ → Finding ℕ
front_number width octets = do
  front ← front_of width octets
  Ok (be_value front.0, front.1)

-- this number in so many octets, and else this fault; what is left are the octets after it
unfoldable pub past_number : ℕ → ℕ → Fault → List ℕ → Result (List ℕ) Fault
past_number width expected fault octets = do
  number ← front_number width octets
  if number.0 == expected then Ok number.1 else Err fault

-- the number of entries that a file announces
unfoldable pub head_of : List ℕ → Finding ℕ
head_of octets = do
  after_magic ← past_number 4 magic BadMagic octets
  after_version ← past_number 2 version BadVersion after_magic
  front_number 8 after_version

-- ---- an entry, behind the octet of its kind

-- one that has a number alone
unfoldable pub numbered_entry : (ℕ → Entry) → List ℕ → Finding Entry
numbered_entry entry octets = do
  number ← front_number 8 octets
  Ok (entry number.0, number.1)

unfoldable pub message_of : List ℕ → Finding Entry
message_of octets = do
  session ← front_number 8 octets
  number ← front_number 8 session.1
  len ← front_number 4 number.1
  message ← front_of len.0 len.1
  Ok (Message session.0 number.0 message.0, message.1)

-- a text is UTF-8
unfoldable pub edit_of : List ℕ → Finding Entry
edit_of octets = do
  len ← front_number 8 octets
  text ← front_of len.0 len.1
  if is_utf8 text.0 then Ok (Edit text.0, text.1) else Err BadEntry

-- a name is one that a subscriber may have
unfoldable pub subscribe_of : List ℕ → Finding Entry
subscribe_of octets = do
  sub ← front_number 8 octets
  len ← front_number 1 sub.1
  name ← front_of len.0 len.1
  if is_name name.0 then Ok (Subscribe sub.0 name.0, name.1) else Err BadEntry

-- an entry of a kind
unfoldable pub entry_by : ℕ → List ℕ → Finding Entry
entry_by kind octets =
    if kind == 1 then numbered_entry Open octets
    else if kind == 2 then numbered_entry Close octets
    else if kind == 3 then message_of octets
    else if kind == 4 then edit_of octets
    else if kind == 5 then subscribe_of octets
    else if kind == 6 then numbered_entry Unsubscribe octets
    else if kind == 7 then numbered_entry Advance octets
    else if kind == 8 then numbered_entry Cut octets
    else Err BadEntry

-- the entry at the front
unfoldable pub entry_of : List ℕ → Finding Entry
entry_of octets = do
  kind ← front_number 1 octets
  entry_by kind.0 kind.1

-- ---- a file

-- behind so many entries, of so many octets, this one is past the greatest limits that a journal may have
abbrev pub is_past : ℕ → ℕ → Entry → Bool
is_past count octets entry = nat_lt MOST_ENTRIES (count + 1) || nat_lt MOST_OCTETS (octets + entry_octets entry)

-- one entry more behind those of h, if it is not past the limits
abbrev pub pushed_of : List Entry → Entry → Result (List Entry) Fault
pushed_of h entry = if is_past (length h) (history_octets h) entry then Err BadEntry else Ok (h ++ entry ∷ [])

-- behind the entries of h so many more, and no octets after them
unfoldable pub entries_behind : List Entry → ℕ → List ℕ → Result (List Entry) Fault
entries_behind h zero octets = if length octets == 0 then Ok h else Err BadEntry
entries_behind h (suc left) octets = do
  found ← entry_of octets
  more ← pushed_of h found.0
  entries_behind more left found.1

-- the history that a file says, or the file's first fault
unfoldable pub file_of : List ℕ → Result (List Entry) Fault
file_of octets = do
  head ← head_of octets
  entries_behind [] head.0 head.1

-- ---- what the calls answer

-- only of want of memory nothing is said
abbrev pub is_memory : Fault → Bool
is_memory BadMagic = false
is_memory BadVersion = false
is_memory Truncated = false
is_memory BadEntry = false
is_memory Read = false
is_memory (Write sent) = false
is_memory OutOfMemory = true

-- what was read is the answer, and a fault is the first one; no fault of a source or a sink is answered
abbrev pub GivesRead : {X Y : Type 0} → (X → Y) → Result X Fault → Result Y Fault → Type 0
GivesRead view answer read = GivesBut is_memory view answer read × IfErr answer IsDecodingFault
