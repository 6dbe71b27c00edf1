-- What the calls of a prepared message answer.
use Rattle.std.specs.Prelude.{◌≡◌, ℕ, Bool, true, false, List, Result, Ok, Err}
use Rattle.sequences.specs.Results.{◌>>=◌, FailsBut, GivesBut}
use Rattle.ipfix_message.specs.declared.item.Item.{Item}
use Rattle.ipfix_message.specs.declared.fault.Fault.{Fault as DecodeError}
use Rattle.ipfix_message.specs.declared.fault.Fault.TheVariants as decode
use Rattle.ipfix_message.specs.Reading.{items_of}
use Rattle.ipfix_session.specs.declared.fault.Fault.{Fault as ReadError}
use Rattle.ipfix_session.specs.declared.fault.Fault.TheVariants as read
use Rattle.ipfix_session.specs.Contents.{Contents}
use Rattle.ipfix_session.specs.Meaning.{contents_of}
use Rattle.prepared_message.specs.declared.fault.Fault.{Fault}
use Rattle.prepared_message.specs.declared.fault.Fault.TheVariants.{HasTemplates, Malformed, OutOfMemory}
use Rattle.prepared_message.specs.SetIds.{has_template_set}

abbrev pub fault_of_decoding : DecodeError → Fault
fault_of_decoding decode.OutOfMemory = OutOfMemory
fault_of_decoding decode.ShortHeader = Malformed
fault_of_decoding decode.BadVersion = Malformed
fault_of_decoding decode.BadLength = Malformed
fault_of_decoding decode.BadSetLength = Malformed
fault_of_decoding decode.TemplateOverrun = Malformed

abbrev pub fault_of_reading : ReadError → Fault
fault_of_reading read.OutOfMemory = OutOfMemory
fault_of_reading (read.Malformed why) = Malformed
fault_of_reading read.RecordOverrun = Malformed

abbrev pub without_templates : Result (List Item) DecodeError → Bool → Result (List Item) Fault
without_templates (Err why) templates = Err Malformed
without_templates (Ok said) true = Err HasTemplates
without_templates (Ok said) false = Ok said

-- the items of a message without a set of templates: the fault of one that has such a set comes only where the octets are a message
abbrev pub items_wanted : List ℕ → Result (List Item) Fault
items_wanted message = without_templates (items_of message) (has_template_set message)

abbrev pub contents_wanted : Result Contents ReadError → Result Contents Fault
contents_wanted (Ok contents) = Ok contents
contents_wanted (Err why) = Err Malformed

-- what a message without a set of templates holds after messages, which stand newest first, or why it is not prepared
abbrev pub prepared_from : List (List ℕ) → List ℕ → Result Contents Fault
prepared_from older message = items_wanted message >>= λ said. contents_wanted (contents_of older message)

-- only want of memory says nothing of the message
abbrev pub is_memory : Fault → Bool
is_memory OutOfMemory = true
is_memory HasTemplates = false
is_memory Malformed = false

-- a fault is the one that is due
abbrev pub FailsPreparing : {Y : Type 0} → Fault → Result Y Fault → Type 0
FailsPreparing e due = FailsBut is_memory e due

-- what is due is answered
abbrev pub GivesPrepared : {X Y : Type 0} → (X → Y) → Result X Fault → Result Y Fault → Type 0
GivesPrepared view answer due = GivesBut is_memory view answer due
