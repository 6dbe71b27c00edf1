-- What a function that reads one item returned, beside what stands at the front.
use Rattle.std.specs.Prelude.{◌≡◌, ℕ, List, [], ◌∷◌, ◌++◌, Option, Some, None, Result, Ok, Err, MatchBool}
use Rattle.std.specs.Borrow.{Bor}
use Rattle.std.specs.Global.{Vec}
use Rattle.ipfix_template.specs.declared.field.FieldSpec.{FieldSpec}
use Rattle.ipfix_template.specs.declared.template.Template.{Template}
use Rattle.ipfix_template.specs.Sequence.{Front, End, Fault, Next}
use Rattle.ipfix_message.specs.declared.fault.Fault.{Fault as DecodeError}
use Rattle.ipfix_message.specs.declared.item.Item.{Item}
use Rattle.ipfix_message.specs.Reading.{is_memory}

-- a fault is the one that stands there, and want of memory says nothing of it
abbrev pub IsFaultIn : DecodeError → Front Item DecodeError → Type 0
IsFaultIn e front = MatchBool (is_memory e) (Unit {0}) (front ≡ Fault e)

abbrev pub ShowsFront : Result (Option (Item × Bor (List ℕ))) DecodeError → Front Item DecodeError → Type 0
ShowsFront (Ok None) front = front ≡ End
ShowsFront (Ok (Some found)) front = front ≡ Next (found.0 ∷ []) found.1.now
ShowsFront (Err e) front = IsFaultIn e front

-- the items that stood at the front are added to those before
abbrev pub AddsFront : List Item → List Item → Result (Bor (List ℕ)) DecodeError → Front Item DecodeError → Type 0
AddsFront old new (Ok rest) front = (added : List Item) × (new ≡ old ++ added) × (front ≡ Next added rest.now)
AddsFront old new (Err e) front = IsFaultIn e front

-- a field, or the end of the octets before it was whole
abbrev pub ShowsField : Option (FieldSpec × Bor (List ℕ)) → Option (FieldSpec × List ℕ) → Type 0
ShowsField None read = read ≡ None
ShowsField (Some found) read = read ≡ Some (found.0, found.1.now)

abbrev pub fields_seen : Vec FieldSpec × Bor (List ℕ) → List FieldSpec × List ℕ
fields_seen found = (found.0.items, found.1.now)

abbrev pub template_seen : Template × Bor (List ℕ) → Template × List ℕ
template_seen found = (found.0, found.1.now)
