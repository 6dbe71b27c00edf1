-- What the calls that read a message answer.
use Rattle.std.specs.Prelude.{◌≡◌, Bool, true, false, Result, Ok, Err}
use Rattle.sequences.specs.Results.{FailsBut, GivesBut}
use Rattle.ipfix_message.specs.declared.fault.Fault.{Fault as DecodeError}
use Rattle.ipfix_message.specs.declared.fault.Fault.TheVariants as decode
use Rattle.ipfix_session.specs.declared.read.Read.{Read}
use Rattle.ipfix_session.specs.declared.contents.Contents.{Contents as DataContents}
use Rattle.ipfix_session.specs.declared.fault.Fault.{Fault}
use Rattle.ipfix_session.specs.declared.fault.Fault.TheVariants.{Malformed, RecordOverrun, OutOfMemory}
use Rattle.ipfix_session.specs.Contents.{Contents}
use Rattle.ipfix_session.specs.Meaning.{Meaning}

-- the fault of octets that are no message, as a session names it
abbrev pub read_fault : DecodeError → Fault
read_fault decode.OutOfMemory = OutOfMemory
read_fault decode.ShortHeader = Malformed decode.ShortHeader
read_fault decode.BadVersion = Malformed decode.BadVersion
read_fault decode.BadLength = Malformed decode.BadLength
read_fault decode.BadSetLength = Malformed decode.BadSetLength
read_fault decode.TemplateOverrun = Malformed decode.TemplateOverrun

-- the answer, with its records as a list
abbrev pub as_meaning : Read → Meaning
as_meaning r = record { header = r.header; records = r.records; skips = r.skips; gap = r.gap }

-- what was read elsewhere, with its records as a list
abbrev pub as_contents : DataContents → Contents
as_contents c = record { records = c.records; skips = c.skips }

-- only want of memory says nothing of the octets
abbrev pub is_memory : Fault → Bool
is_memory OutOfMemory = true
is_memory (Malformed why) = false
is_memory RecordOverrun = false

-- a fault is the one that is read
abbrev pub FailsMeaning : {Y : Type 0} → Fault → Result Y Fault → Type 0
FailsMeaning e read = FailsBut is_memory e read

-- a header that is refused is answered by its fault, and by no other
abbrev pub NamesFault : {X Y : Type 0} → Result X DecodeError → Result Y Fault → Type 0
NamesFault (Ok header) answer = Unit {0}
NamesFault (Err fault) answer = answer ≡ Err (read_fault fault)

-- what is read is answered
abbrev pub GivesMeant : {X Y : Type 0} → (X → Y) → Result X Fault → Result Y Fault → Type 0
GivesMeant view answer read = GivesBut is_memory view answer read
