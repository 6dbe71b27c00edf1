-- What a message means: its header and its items (RFC 7011, sections 3.1 to 3.4 and 8.1), or the first fault in reading order,
-- which is this project's own rule.
use Rattle.std.specs.Prelude.{◌≡◌, ℕ, zero, suc, ◌+◌, ◌-◌, Bool, true, false, List, [], ◌∷◌, length, take, drop, Option, Some, None, Result, Ok, Err, nat_lt, ◌==◌, ◌||◌, if◌then◌else◌}
use Rattle.ipfix_template.specs.Octets.{number_at}
use Rattle.ipfix_octets.specs.MessageFormat.{ipfix_version, header_octets, set_header_octets, record_header_octets, template_set_id, options_template_set_id, least_template_id}
use Rattle.ipfix_template.specs.Sequence.{Front, End, Fault, Next, read_all}
use Rattle.ipfix_template.specs.declared.field.FieldSpec.{FieldSpec}
use Rattle.ipfix_template.specs.declared.template.Template.{Template}
use Rattle.sequences.specs.Options.{◌>>=◌}
use Rattle.sequences.specs.Results.{FailsBut, GivesBut}
use Rattle.ipfix_message.specs.Records.{bare_item, template_item}
use Rattle.ipfix_message.specs.declared.header.Header.{Header}
use Rattle.ipfix_message.specs.declared.fault.Fault.{Fault as DecodeError}
use Rattle.ipfix_message.specs.declared.fault.Fault.TheVariants.{ShortHeader, BadVersion, BadLength, BadSetLength, TemplateOverrun, OutOfMemory}
use Rattle.ipfix_message.specs.declared.item.Item.{Item}
use Rattle.ipfix_message.specs.declared.item.Item.TheVariants as items

abbrev pub header_of : List ℕ → Header
header_of octets = record { export_time = number_at 4 4 octets; sequence = number_at 8 4 octets; domain = number_at 12 4 octets }

-- version, length, export time, sequence number, domain; the length is that of the whole message
unfoldable pub read_header : List ℕ → Result Header DecodeError
read_header octets =
    if nat_lt (length octets) header_octets then Err ShortHeader
    else if number_at 0 2 octets == ipfix_version then
    (if number_at 2 2 octets == length octets then Ok (header_of octets) else Err BadLength)
    else Err BadVersion

-- ---- templates

-- a Field Specifier at the front, and the octets after it; the highest bit says that an enterprise number follows
unfoldable pub field_at : List ℕ → Option (FieldSpec × List ℕ)
field_at octets =
    if nat_lt (length octets) 4 then None
    else if nat_lt (number_at 0 2 octets) 32768 then
    Some (record { element = record { pen = None; number = number_at 0 2 octets }; length = number_at 2 2 octets }, drop 4 octets)
    else if nat_lt (length octets) 8 then None
    else Some (record { element = record { pen = Some (number_at 4 4 octets); number = number_at 0 2 octets - 32768 }; length = number_at 2 2 octets }, drop 8 octets)

unfoldable pub fields_at : ℕ → List ℕ → Option (List FieldSpec × List ℕ)
fields_at zero octets = Some ([], octets)
fields_at (suc count) octets = do
  field ← field_at octets
  others ← fields_at count field.1
  Some (field.0 ∷ others.0, others.1)

-- so many fields, with this number of scope fields
unfoldable pub scoped_at : ℕ → ℕ → List ℕ → Option (Template × List ℕ)
scoped_at scope count octets = do
  fields ← fields_at count octets
  Some (record { fields = fields.0; scope = scope }, fields.1)

-- what follows ID and Field Count: the Scope Field Count of an options template, and the fields
unfoldable pub template_at : Bool → ℕ → List ℕ → Option (Template × List ℕ)
template_at false count octets = scoped_at 0 count octets
template_at true count octets = if nat_lt (length octets) 2 then None else scoped_at (number_at 0 2 octets) count (drop 2 octets)

abbrev pub found_template : Bool → ℕ → Option (Template × List ℕ) → Front Item DecodeError
found_template options id (Some found) = Next (template_item options id found.0 ∷ []) found.1
found_template options id None = Fault TemplateOverrun

-- what stands at the front of a set of templates: padding, or a template record
unfoldable pub template_front : Bool → List ℕ → Front Item DecodeError
template_front options octets =
    if nat_lt (length octets) record_header_octets then End
    else if number_at 2 2 octets == 0 then Next (bare_item options (number_at 0 2 octets) ∷ []) (drop record_header_octets octets)
    else found_template options (number_at 0 2 octets) (template_at options (number_at 2 2 octets) (drop record_header_octets octets))

-- ---- sets

-- the items of a set of this ID whose content stands at this place of the message
unfoldable pub set_items : ℕ → ℕ → List ℕ → Result (List Item) DecodeError
set_items id place content =
    if id == template_set_id then read_all (template_front false) content
    else if id == options_template_set_id then read_all (template_front true) content
    else if nat_lt id least_template_id then Ok (items.Skipped id ∷ [])
    else Ok (items.DataSet id place (length content) ∷ [])

abbrev pub found_set : Result (List Item) DecodeError → List ℕ → Front Item DecodeError
found_set (Ok found) rest = Next found rest
found_set (Err e) rest = Fault e

-- what stands at the front of the octets left of a message of so many: its end, or a set with its ID and length
unfoldable pub set_front : ℕ → List ℕ → Front Item DecodeError
set_front total octets =
    if length octets == 0 then End
    else if nat_lt (length octets) set_header_octets then Fault BadSetLength
    else if nat_lt (number_at 2 2 octets) set_header_octets || nat_lt (length octets) (number_at 2 2 octets) then Fault BadSetLength
    else found_set (set_items (number_at 0 2 octets) (total - length octets + set_header_octets) (take (number_at 2 2 octets - set_header_octets) (drop set_header_octets octets))) (drop (number_at 2 2 octets) octets)

abbrev pub after_header : List ℕ → Result Header DecodeError → Result (List Item) DecodeError
after_header octets (Ok header) = read_all (set_front (length octets)) (drop header_octets octets)
after_header octets (Err e) = Err e

-- the items of a message, or its first fault
unfoldable pub items_of : List ℕ → Result (List Item) DecodeError
items_of octets = after_header octets (read_header octets)

-- ---- what the calls answer

-- only want of memory is no fault
abbrev pub is_memory : DecodeError → Bool
is_memory OutOfMemory = true
is_memory ShortHeader = false
is_memory BadVersion = false
is_memory BadLength = false
is_memory BadSetLength = false
is_memory TemplateOverrun = false

-- a fault is the first one
abbrev pub FailsDecoding : {Y : Type 0} → DecodeError → Result Y DecodeError → Type 0
FailsDecoding e read = FailsBut is_memory e read

-- what was read is the answer
abbrev pub GivesDecoded : {X Y : Type 0} → (X → Y) → Result X DecodeError → Result Y DecodeError → Type 0
GivesDecoded view answer read = GivesBut is_memory view answer read

abbrev pub or_overrun : {Y : Type 0} → Option Y → Result Y DecodeError
or_overrun (Some y) = Ok y
or_overrun None = Err TemplateOverrun
