-- Templates that the test finds equal are equal.
use Rattle.std.specs.Prelude.{◌≡◌, ℕ, true, List, [], ◌∷◌, Option, Some, None, ◌==◌, ◌&&◌, refl}
use Rattle.std.proofs.Common.{sym, ap, ◌∙◌}
use Rattle.std.proofs.lemmas.Bool.{eqb-true, eq-eqb, and_parts, and_from}
use Rattle.std.specs.Cmp.{IsPartialEquivalence, IsEquivalence, partial_equiv_from_equiv, decided}
use Rattle.ipfix_template.specs.declared.field.FieldSpec.{FieldSpec}
use Rattle.ipfix_template.specs.declared.template.Template.{Template}
use Rattle.ipfix_template.specs.Equality.{same_pen, same_field, same_fields, same_template, hashed_template}

number_is : (a b : ℕ) → (a == b) ≡ true → a ≡ b
number_is a b e = eqb-true a b e

number_same : (a : ℕ) → (a == a) ≡ true
number_same a = eq-eqb a a refl

pub pen_is : (a b : Option ℕ) → same_pen a b ≡ true → a ≡ b
pen_is None None e = refl
pen_is (Some a) (Some b) e = ap (λ (n : ℕ). Some n) (number_is a b e)
pen_is None (Some b) e = absurd cc
pen_is (Some a) None e = absurd cc

pen_same : (a : Option ℕ) → same_pen a a ≡ true
pen_same None = refl
pen_same (Some a) = number_same a

-- a Field Specifier of its parts
abbrev pub field_of : Option ℕ → ℕ → ℕ → FieldSpec
field_of pen number len = record { element = record { pen = pen; number = number }; length = len }

pub field_from_parts : (f g : FieldSpec) → f.element.pen ≡ g.element.pen → f.element.number ≡ g.element.number → f.length ≡ g.length → f ≡ g
field_from_parts f g pen number len =
    ap (λ (p : Option ℕ). field_of p f.element.number f.length) pen
    ∙ ap (λ (n : ℕ). field_of g.element.pen n f.length) number
    ∙ ap (λ (l : ℕ). field_of g.element.pen g.element.number l) len

field_is : (f g : FieldSpec) → same_field f g ≡ true → f ≡ g
field_is f g e =
    let element = and_parts (same_pen f.element.pen g.element.pen) ((f.element.number == g.element.number) && (f.length == g.length)) e in
    let others = and_parts (f.element.number == g.element.number) (f.length == g.length) element.1 in
    field_from_parts f g (pen_is f.element.pen g.element.pen element.0) (number_is f.element.number g.element.number others.0) (number_is f.length g.length others.1)

field_same : (f : FieldSpec) → same_field f f ≡ true
field_same f =
    and_from (same_pen f.element.pen f.element.pen) _ (pen_same f.element.pen) (and_from (f.element.number == f.element.number) (f.length == f.length) (number_same f.element.number) (number_same f.length))

fields_are : (fs gs : List FieldSpec) → same_fields fs gs ≡ true → fs ≡ gs
fields_are [] [] e = refl
fields_are (f ∷ fs) (g ∷ gs) e =
    let parts = and_parts (same_field f g) (same_fields fs gs) e in
    let first = field_is f g parts.0 in
    let others = fields_are fs gs parts.1 in
    cc
fields_are [] (g ∷ gs) e = absurd cc
fields_are (f ∷ fs) [] e = absurd cc

fields_same : (fs : List FieldSpec) → same_fields fs fs ≡ true
fields_same [] = refl
fields_same (f ∷ fs) = and_from _ _ (field_same f) (fields_same fs)

abbrev template_of : List FieldSpec → ℕ → Template
template_of fields scope = record { fields = fields; scope = scope }

pub template_from_parts : (s t : Template) → s.fields ≡ t.fields → s.scope ≡ t.scope → s ≡ t
template_from_parts s t fields scope = ap (λ (fs : List FieldSpec). template_of fs s.scope) fields ∙ ap (λ (n : ℕ). template_of t.fields n) scope

pub same_template-is : (s t : Template) → same_template s t ≡ true → s ≡ t
same_template-is s t e =
    let parts = and_parts (same_fields s.fields t.fields) (s.scope == t.scope) e in
    template_from_parts s t (fields_are s.fields t.fields parts.0) (number_is s.scope t.scope parts.1)

pub same_template-itself : (t : Template) → same_template t t ≡ true
same_template-itself t = and_from _ _ (fields_same t.fields) (number_same t.scope)

pub same_template-whole : IsEquivalence same_template
same_template-whole = decided same_template (λ s t. (same_template-is s t, λ e. ap (same_template s) (sym e) ∙ same_template-itself s))

pub same_template-partial : IsPartialEquivalence same_template
same_template-partial = partial_equiv_from_equiv same_template-whole

pub same_template-hashed : (s t : Template) → same_template s t ≡ true → hashed_template s ≡ hashed_template t
same_template-hashed s t e = ap hashed_template (same_template-is s t e)
