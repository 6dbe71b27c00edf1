-- What the messages of one session, which is one TCP connection, mean (RFC 7011, sections 3.1, 8 and 10.4). What is a gap is
-- this project's own rule: a domain's first message sets the number, and so does the next one after a Data Set that was skipped
-- for want of a template.
use Rattle.std.specs.Prelude.{ℕ, ◌+◌, ◌%◌, ◌^◌, Bool, List, [], ◌∷◌, ◌++◌, length, reverse, map, filter, Option, Some, None, Result, Ok, Err, ◌==◌, if◌then◌else◌}
use Rattle.std.specs.List.{flat_map}
use Rattle.ipfix_template.specs.DataRecord.{DataRecord}
use Rattle.ipfix_message.specs.declared.header.Header.{Header}
use Rattle.ipfix_message.specs.declared.fault.Fault.{Fault as DecodeError}
use Rattle.ipfix_message.specs.declared.item.Item.{Item}
use Rattle.ipfix_message.specs.Reading.{header_of, items_of}
use Rattle.sequences.specs.Results.{◌>>=◌}
use Rattle.ipfix_session.specs.Contents.{Contents, contents_after}
use Rattle.ipfix_session.specs.declared.read.Skips.{Skips}
use Rattle.ipfix_session.specs.declared.read.Gap.{Gap}
use Rattle.ipfix_session.specs.declared.fault.Fault.{Fault}
use Rattle.ipfix_session.specs.declared.fault.Fault.TheVariants.{Malformed}

-- The messages of a session stand newest first.

abbrev pub domain_of : List ℕ → ℕ
domain_of message = (header_of message).domain

abbrev pub items_or_none : Result (List Item) DecodeError → List Item
items_or_none (Ok items) = items
items_or_none (Err e) = []

-- the items of the messages of a domain, newest first
unfoldable pub items_of_domain : ℕ → List (List ℕ) → List Item
items_of_domain domain messages =
    flat_map (λ message. reverse (items_or_none (items_of message))) (filter (λ message. domain == domain_of message) messages)

abbrev pub read_items : List Item → List ℕ → Result (List Item) DecodeError → Result Contents Fault
read_items older message (Ok items) = contents_after older message items
read_items older message (Err e) = Err (Malformed e)

-- what a message holds after older messages of its session
unfoldable pub contents_of : List (List ℕ) → List ℕ → Result Contents Fault
contents_of older message = read_items (items_of_domain (domain_of message) older) message (items_of message)

-- the number of the message after one with this header and contents: the records are counted modulo 2^32; after a
-- Data Set that was skipped for want of a template nobody knows it
abbrev pub number_after : Header → Contents → Option ℕ
number_after h c = if c.skips.unknown == 0 then Some ((h.sequence + length c.records) % 2 ^ 32) else None

-- the same by how many records there are, and whether a Data Set was skipped for want of a template
abbrev pub number_past : Header → ℕ → Bool → Option ℕ
number_past h records unknown = if unknown then None else Some ((h.sequence + records) % 2 ^ 32)

abbrev pub next_number : Header → Result Contents Fault → Option ℕ
next_number h (Ok c) = number_after h c
next_number h (Err e) = None

-- the number that a domain's next message is to have: that after the domain's last message
unfoldable pub expected_number : ℕ → List (List ℕ) → Option ℕ
expected_number domain [] = None
expected_number domain (message ∷ older) =
    if domain == domain_of message then next_number (header_of message) (contents_of older message) else expected_number domain older

abbrev pub gap_between : Option ℕ → ℕ → Option Gap
gap_between None got = None
gap_between (Some expected) got = if expected == got then None else Some (record { expected = expected; got = got })

-- what a message means after older messages of its session
pub record Meaning : Type 0 where
  pub header : Header
  pub records : List DataRecord
  pub skips : Skips
  pub gap : Option Gap

abbrev pub gap_of : List (List ℕ) → List ℕ → Option Gap
gap_of older message = gap_between (expected_number (domain_of message) older) (header_of message).sequence

unfoldable pub meaning_of : List (List ℕ) → List ℕ → Result Meaning Fault
meaning_of older message = do
  contents ← contents_of older message
  Ok (record { header = header_of message; records = contents.records; skips = contents.skips; gap = gap_of older message })

abbrev pub with_domain : ℕ → DataRecord → ℕ × DataRecord
with_domain domain r = (domain, r)

-- the records of further messages of a session, oldest first, each with its domain
unfoldable pub records_after : List (List ℕ) → List (List ℕ) → Result (List (ℕ × DataRecord)) Fault
records_after older [] = Ok []
records_after older (message ∷ messages) = do
  contents ← contents_of older message
  others ← records_after (message ∷ older) messages
  Ok (map (with_domain (domain_of message)) contents.records ++ others)

-- the meaning of a stream: the records of messages that are the whole of a session
abbrev pub records_of : List (List ℕ) → Result (List (ℕ × DataRecord)) Fault
records_of messages = records_after [] messages

-- records, and those of further messages, unless one of the two has a fault
abbrev pub both_records : Result (List (ℕ × DataRecord)) Fault → Result (List (ℕ × DataRecord)) Fault → Result (List (ℕ × DataRecord)) Fault
both_records (Ok records) (Ok others) = Ok (records ++ others)
both_records (Ok records) (Err e) = Err e
both_records (Err e) others = Err e

-- the records that a message of this domain brings
abbrev pub records_meant : ℕ → Result Meaning Fault → Result (List (ℕ × DataRecord)) Fault
records_meant domain (Ok m) = Ok (map (with_domain domain) m.records)
records_meant domain (Err e) = Err e
