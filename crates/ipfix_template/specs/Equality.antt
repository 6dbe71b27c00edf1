-- Templates that are equal: the same fields, of which as many are scope fields.
use Rattle.std.specs.Prelude.{ℕ, Bool, true, false, List, ◌++◌, Option, Some, None, ◌==◌, ◌&&◌}
use Rattle.std.specs.Cmp.Lexicographic.{pointwise}
use Rattle.std.specs.Hash as fed
use Rattle.ipfix_template.specs.declared.field.FieldSpec.{FieldSpec}
use Rattle.ipfix_template.specs.declared.template.Template.{Template}

abbrev pub same_pen : Option ℕ → Option ℕ → Bool
same_pen None None = true
same_pen (Some a) (Some b) = a == b
same_pen None (Some b) = false
same_pen (Some a) None = false

-- the same element, and the same length
abbrev pub same_field : FieldSpec → FieldSpec → Bool
same_field f g = same_pen f.element.pen g.element.pen && ((f.element.number == g.element.number) && (f.length == g.length))

abbrev pub same_fields : List FieldSpec → List FieldSpec → Bool
same_fields fs gs = pointwise same_field fs gs

abbrev pub same_template : Template → Template → Bool
same_template s t = same_fields s.fields t.fields && (s.scope == t.scope)

-- what a field and a template give to a hasher
abbrev pub hashed_pen : Option ℕ → fed.HashWrites
hashed_pen pen = fed.option fed.u32 pen

abbrev pub hashed_field : FieldSpec → fed.HashWrites
hashed_field f = hashed_pen f.element.pen ++ fed.u16 f.element.number ++ fed.u16 f.length

abbrev pub hashed_template : Template → fed.HashWrites
hashed_template t = fed.slice hashed_field t.fields ++ fed.u16 t.scope
