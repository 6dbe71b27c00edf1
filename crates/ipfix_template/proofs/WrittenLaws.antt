-- What is written is read as what it was, and as nothing else.
use Rattle.std.proofs.Common.{inl, inr, ◌≡◌, ℕ, ◌+◌, ◌^◌, ◌<◌, ◌≤◌, Bool, true, false, cond, leb, eqb, ltb, List, [], ◌∷◌, ◌++◌, length, take, drop, Option, Some, None, refl, sym, ap, ◌∙◌, append_assoc, arith}
use Rattle.std.specs.Prelude.{MatchBool, IfSome}
use Rattle.std.specs.List.{flat_map, AllByRecursion}
use Rattle.std.proofs.lemmas.Bool.{leb-true, ltb-true, eqb-true, and_parts}
use Rattle.std.proofs.lemmas.List.{take_at, drop_at}
use Rattle.std.proofs.lemmas.List.Concat.{flat_map-cons}
use Rattle.sequences.specs.Octets.{be_value, be_octets}
use Rattle.sequences.proofs.OctetLaws.{length-be_octets, be_value-be_octets}
use Rattle.ipfix_octets.specs.Variable.{IsVarText, shortest_text}
use Rattle.ipfix_template.specs.SameTemplate.{field_from_parts, template_from_parts}
use Rattle.ipfix_template.specs.declared.field.FieldSpec.{FieldSpec}
use Rattle.ipfix_template.specs.declared.template.Template.{Template}
use Rattle.ipfix_template.specs.Template.{is_variable, specifier_of, specifier, template_record, IsSpecifier, IsWritable}
use Rattle.ipfix_template.specs.Values.{IsText, Splits, fits_field, fit_fields, value_text, record_text}
use Rattle.ipfix_template.proofs.SplitLaws.{one_split}

-- ---- records

text_by : (short : Bool) (value : List ℕ) → ltb (length value) 255 ≡ short → length value ≤ 65535 → IsVarText (cond short (length value ∷ value) (255 ∷ (be_octets 2 (length value) ++ value))) value
text_by true value is few = inl (ltb-true _ _ is, refl)
text_by false value is few =
    inr (be_octets 2 (length value), record { wide = length-be_octets 2 (length value); value = be_value-be_octets 2 (length value) (omega arith) }, refl)

-- the shortest text of a value is one of its texts
pub shortest_text-is : (value : List ℕ) → length value ≤ 65535 → IsVarText (shortest_text value) value
shortest_text-is value few = text_by (ltb (length value) 255) value refl few

value_by : (variable : Bool) (len : ℕ) (value : List ℕ) → cond variable (leb (length value) 65535) (eqb (length value) len) ≡ true → MatchBool variable (IsVarText (cond variable (shortest_text value) value) value) ((cond variable (shortest_text value) value ≡ value) × (length value ≡ len))
value_by true len value fits = shortest_text-is value (leb-true _ _ fits)
value_by false len value fits = (refl, eqb-true _ _ fits)

pub value_text-is : (f : FieldSpec) (value : List ℕ) → fits_field f value ≡ true → IsText f (value_text f value) value
value_text-is f value fits = value_by (is_variable f) f.length value fits

-- values that fit are split again from what is written for them
pub record_text-splits : (fs : List FieldSpec) (vs : List (List ℕ)) → fit_fields fs vs ≡ true → Splits fs (record_text fs vs) vs
record_text-splits [] [] fit = refl
record_text-splits [] (v ∷ vs) fit = absurd cc
record_text-splits (f ∷ fs) [] fit = absurd cc
record_text-splits (f ∷ fs) (v ∷ vs) fit =
    (value_text f v, record_text fs vs, refl, value_text-is f v (and_parts (fits_field f v) (fit_fields fs vs) fit).0, record_text-splits fs vs (and_parts (fits_field f v) (fit_fields fs vs) fit).1)

pub record_text-only : (fs : List FieldSpec) (vs : List (List ℕ)) (text before after : List ℕ) (values : List (List ℕ)) → fit_fields fs vs ≡ true → record_text fs vs ++ before ≡ text ++ after → Splits fs text values → (text ≡ record_text fs vs) × (values ≡ vs)
record_text-only fs vs text before after values fit parts is =
    one_split fs (text ++ after) text (record_text fs vs) after before values vs refl (sym parts) is (record_text-splits fs vs fit)

-- ---- templates

-- fronts of the same length of equal lists are equal, and so is what follows
pub fronts : (a b x y : List ℕ) → length a ≡ length b → a ++ x ≡ b ++ y → (a ≡ b) × (x ≡ y)
fronts a b x y wide e =
    (sym (take_at a x (length a) refl) ∙ ap (take (length a)) e ∙ take_at b y (length a) (sym wide), sym (drop_at a x (length a) refl) ∙ ap (drop (length a)) e ∙ drop_at b y (length a) (sym wide))

-- numbers of one width at the front are equal, and so is what follows
numbers : (width m n : ℕ) (x y : List ℕ) → m < 256 ^ width → n < 256 ^ width → be_octets width m ++ x ≡ be_octets width n ++ y → (m ≡ n) × (x ≡ y)
numbers width m n x y fits-m fits-n e =
    let f = fronts (be_octets width m) (be_octets width n) x y (length-be_octets width m ∙ sym (length-be_octets width n)) e in
    (sym (be_value-be_octets width m fits-m) ∙ ap be_value f.0 ∙ be_value-be_octets width n fits-n, f.1)

abbrev PenFits : Option ℕ → Type 0
PenFits pen = IfSome pen (λ n. n < 2 ^ 32)

-- a specifier at the front is one specifier
one_specifier : (p q : Option ℕ) (m n k l : ℕ) (x y : List ℕ) → m < 32768 → n < 32768 → k < 2 ^ 16 → l < 2 ^ 16 → PenFits p → PenFits q → specifier_of p m k ++ x ≡ specifier_of q n l ++ y → (p ≡ q) × (m ≡ n) × (k ≡ l) × (x ≡ y)
one_specifier None None m n k l x y mf nf kf lf pf qf e =
    let first = numbers 2 m n (be_octets 2 k ++ x) (be_octets 2 l ++ y) (omega arith) (omega arith) (sym (append_assoc (be_octets 2 m) (be_octets 2 k) x) ∙ e ∙ append_assoc (be_octets 2 n) (be_octets 2 l) y) in
    let second = numbers 2 k l x y (omega arith) (omega arith) first.1 in
    (refl, first.0, second.0, second.1)
one_specifier None (Some q) m n k l x y mf nf kf lf pf qf e =
    let first = numbers 2 m (n + 32768) (be_octets 2 k ++ x) ((be_octets 2 l ++ be_octets 4 q) ++ y) (omega arith) (omega arith)
    (sym (append_assoc (be_octets 2 m) (be_octets 2 k) x) ∙ e) in
    absurd (omega (arith, first.0))
one_specifier (Some p) None m n k l x y mf nf kf lf pf qf e =
    let first = numbers 2 (m + 32768) n ((be_octets 2 k ++ be_octets 4 p) ++ x) (be_octets 2 l ++ y) (omega arith) (omega arith)
    (e ∙ append_assoc (be_octets 2 n) (be_octets 2 l) y) in
    absurd (omega (arith, first.0))
one_specifier (Some p) (Some q) m n k l x y mf nf kf lf pf qf e =
    let first = numbers 2 (m + 32768) (n + 32768) ((be_octets 2 k ++ be_octets 4 p) ++ x) ((be_octets 2 l ++ be_octets 4 q) ++ y) (omega arith) (omega arith) e in
    let second = numbers 2 k l (be_octets 4 p ++ x) (be_octets 4 q ++ y) (omega arith) (omega arith) first.1 in
    let third = numbers 4 p q x y (omega (arith, pf)) (omega (arith, qf)) second.1 in
    let some : ℕ → Option ℕ = λ v. Some v in
    (ap some third.0, omega (arith, first.0), second.0, third.1)

-- as many specifiers at the front are the same specifiers
same_fields : (fs gs : List FieldSpec) (x y : List ℕ) → AllByRecursion IsSpecifier fs → AllByRecursion IsSpecifier gs → length fs ≡ length gs → flat_map specifier fs ++ x ≡ flat_map specifier gs ++ y → (fs ≡ gs) × (x ≡ y)
same_fields [] [] x y fits-f fits-g even e = (refl, e)
same_fields [] (g ∷ gs) x y fits-f fits-g even e = absurd (omega arith)
same_fields (f ∷ fs) [] x y fits-f fits-g even e = absurd (omega arith)
same_fields (f ∷ fs) (g ∷ gs) x y fits-f fits-g even e =
    let left : flat_map specifier (f ∷ fs) ++ x ≡ specifier f ++ (flat_map specifier fs ++ x) = ap (λ (t : List ℕ). t ++ x) (flat_map-cons specifier f fs) ∙ append_assoc (specifier f) (flat_map specifier fs) x in
    let right : flat_map specifier (g ∷ gs) ++ y ≡ specifier g ++ (flat_map specifier gs ++ y) = ap (λ (t : List ℕ). t ++ y) (flat_map-cons specifier g gs) ∙ append_assoc (specifier g) (flat_map specifier gs) y in
    let first = one_specifier f.element.pen g.element.pen f.element.number g.element.number f.length g.length (flat_map specifier fs ++ x) (flat_map specifier gs ++ y) fits-f.0.number fits-g.0.number fits-f.0.len fits-g.0.len fits-f.0.pen fits-g.0.pen (sym left ∙ e ∙ right) in
    let others = same_fields fs gs x y fits-f.1 fits-g.1 (omega arith) first.3 in
    let same : f ≡ g = field_from_parts f g first.0 first.1 first.2 in
    (ap (λ (h : FieldSpec). h ∷ fs) same ∙ ap (λ (hs : List FieldSpec). g ∷ hs) others.0, others.1)

-- what is written for a template determines ID and template, whatever follows
pub one_written : (options : Bool) (a b : ℕ) (s t : Template) (x y : List ℕ) → IsWritable a options s → IsWritable b options t → template_record a options s ++ x ≡ template_record b options t ++ y → (a ≡ b) × (s ≡ t) × (x ≡ y)
unfolding template_record
one_written false a b s t x y fits-s fits-t e =
    let first = numbers 2 a b ((be_octets 2 (length s.fields) ++ flat_map specifier s.fields) ++ x) ((be_octets 2 (length t.fields) ++ flat_map specifier t.fields) ++ y) (omega (arith, fits-s.id_fits)) (omega (arith, fits-t.id_fits)) e in
    let second = numbers 2 (length s.fields) (length t.fields) (flat_map specifier s.fields ++ x) (flat_map specifier t.fields ++ y) (omega (arith, fits-s.count_fits)) (omega (arith, fits-t.count_fits)) first.1 in
    let third = same_fields s.fields t.fields x y fits-s.fields fits-t.fields second.0 second.1 in
    (first.0, template_from_parts s t third.0 (fits-s.scope_of_plain refl ∙ sym (fits-t.scope_of_plain refl)), third.1)
one_written true a b s t x y fits-s fits-t e =
    let first = numbers 2 a b (((be_octets 2 (length s.fields) ++ be_octets 2 s.scope) ++ flat_map specifier s.fields) ++ x) (((be_octets 2 (length t.fields) ++ be_octets 2 t.scope) ++ flat_map specifier t.fields) ++ y) (omega (arith, fits-s.id_fits)) (omega (arith, fits-t.id_fits)) e in
    let second = numbers 2 (length s.fields) (length t.fields) ((be_octets 2 s.scope ++ flat_map specifier s.fields) ++ x) ((be_octets 2 t.scope ++ flat_map specifier t.fields) ++ y) (omega (arith, fits-s.count_fits)) (omega (arith, fits-t.count_fits)) first.1 in
    let scope = numbers 2 s.scope t.scope (flat_map specifier s.fields ++ x) (flat_map specifier t.fields ++ y) (omega (arith, fits-s.scope_fits)) (omega (arith, fits-t.scope_fits)) second.1 in
    let third = same_fields s.fields t.fields x y fits-s.fields fits-t.fields second.0 scope.1 in
    (first.0, template_from_parts s t third.0 scope.0, third.1)
