-- Templates: their fields, why one is refused, and how one is written (RFC 7011, sections 3.2, 3.4 and 7). That a template is
-- refused by itself, and the reasons with their order, are this project's own rule.
use Rattle.std.specs.Prelude.{◌≡◌, ◌<◌, ◌^◌, ℕ, ◌+◌, Bool, true, false, List, ◌++◌, length, Option, Some, None, IfSome, nat_lt, ◌==◌, ◌||◌, if◌then◌else◌}
use Rattle.std.specs.List.{sum_by, list_all, flat_map, AllByRecursion}
use Rattle.ipfix_octets.specs.Octets.{be_octets}
use Rattle.ipfix_octets.specs.MessageFormat.{least_template_id}
use Rattle.ipfix_element.specs.Kinds.{kind_of, is_allowed_length}
use Rattle.ipfix_template.specs.declared.field.FieldSpec.{FieldSpec}
use Rattle.ipfix_template.specs.declared.template.Template.{Template}
use Rattle.ipfix_template.specs.declared.template.Refused.{Refused}
use Rattle.ipfix_template.specs.declared.template.Refused.TheVariants.{BadId, BadLength, BadScope, EmptyRecord}

-- the Field Length that marks values of variable length (RFC 7011, section 7)
abbrev pub variable_length : ℕ
variable_length = 65535

-- the values bring their own lengths
abbrev pub is_variable : FieldSpec → Bool
is_variable f = f.length == variable_length

-- a field takes at least this many octets of a record
abbrev pub least_octets : FieldSpec → ℕ
least_octets f = if is_variable f then 1 else f.length

-- the octets of the shortest record
abbrev pub shortest_record : Template → ℕ
shortest_record t = sum_by least_octets t.fields

abbrev pub has_allowed_length : FieldSpec → Bool
has_allowed_length f = is_allowed_length (kind_of f.element) f.length

-- an options template has 1 scope field at least, and no more than it has fields; a plain template has none
abbrev pub has_bad_scope : Bool → Template → Bool
has_bad_scope true t = (t.scope == 0) || nat_lt (length t.fields) t.scope
has_bad_scope false t = nat_lt 0 t.scope

-- the first reason to refuse a template of this ID, of an Options Template Set or of a Template Set
unfoldable pub refusal_of : ℕ → Bool → Template → Option Refused
refusal_of id options t =
    if nat_lt id least_template_id then Some BadId
    else if list_all has_allowed_length t.fields then
    (if has_bad_scope options t then Some BadScope
    else if shortest_record t == 0 then Some EmptyRecord
    else None)
    else Some BadLength

-- a template that passes, under some ID, in the kind of set that it is for
abbrev pub is_options : Template → Bool
is_options t = nat_lt 0 t.scope

abbrev pub IsAcceptable : Template → Type 0
IsAcceptable t = refusal_of least_template_id (is_options t) t ≡ None

-- an element number, its enterprise bit, the field's length, and the enterprise number where the bit is set
abbrev pub specifier_of : Option ℕ → ℕ → ℕ → List ℕ
specifier_of None number len = be_octets 2 number ++ be_octets 2 len
specifier_of (Some pen) number len = be_octets 2 (number + 32768) ++ be_octets 2 len ++ be_octets 4 pen

abbrev pub specifier : FieldSpec → List ℕ
specifier f = specifier_of f.element.pen f.element.number f.length

-- a template record: its ID, the number of fields, for an options template the number of scope fields, and the fields
abbrev pub record_head : ℕ → Bool → Template → List ℕ
record_head id true t = be_octets 2 id ++ be_octets 2 (length t.fields) ++ be_octets 2 t.scope
record_head id false t = be_octets 2 id ++ be_octets 2 (length t.fields)

-- all parts of the record, one after another
unfoldable pub template_record : ℕ → Bool → Template → List ℕ
template_record id options t = record_head id options t ++ flat_map specifier t.fields

-- numbers that their octets hold: 15 bits of element number, 4 octets of enterprise number, 2 of length
pub record IsSpecifier (f : FieldSpec) : Type 0 where
  pub number : f.element.number < 32768
  pub pen : IfSome f.element.pen (λ n. n < 2 ^ 32)
  pub len : f.length < 2 ^ 16

-- a template that can be written under this ID in a set of this kind
pub record IsWritable (id : ℕ) (options : Bool) (t : Template) : Type 0 where
  pub id_fits : id < 2 ^ 16
  pub count_fits : length t.fields < 2 ^ 16
  pub scope_fits : t.scope < 2 ^ 16
  pub scope_of_plain : options ≡ false → t.scope ≡ 0
  pub fields : AllByRecursion IsSpecifier t.fields
