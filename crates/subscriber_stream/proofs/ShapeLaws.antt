-- Shapes in the order of first use, taken record by record.
use Rattle.std.proofs.Common.{◌≡◌, ◌≤◌, Bool, true, false, cond, not, List, [], ◌∷◌, ◌++◌, length, refl, sym, ap, ◌∙◌, arith, append_assoc, length-append}
use Rattle.std.specs.Prelude.{◌||◌, ◌&&◌}
use Rattle.std.specs.List.{filter}
use Rattle.std.proofs.lemmas.List.{append-nil}
use Rattle.std.proofs.lemmas.List.Elements.{filter-append, filter_agree}
use Rattle.sequences.specs.Before.{each_after}
use Rattle.ipfix_template.specs.declared.template.Template.{Template}
use Rattle.ipfix_template.specs.DataRecord.{DataRecord}
use Rattle.ipfix_template.specs.Equality.{same_template}
use Rattle.ipfix_template.specs.SameTemplate.{same_template-is, same_template-itself}
use Rattle.std.proofs.lemmas.List.Folds.{list_any-append}
use Rattle.subscriber_stream.specs.Shapes.{is_among, with_shape, is_used, first_use, shapes_of, shapes_after}

or_assoc : (a b c : Bool) → ((a || b) || c) ≡ (a || (b || c))
or_assoc true b c = refl
or_assoc false b c = refl

pub or_false : (a : Bool) → (a || false) ≡ a
or_false true = refl
or_false false = refl

-- a shape is among those with one more, where it is among them or is that one
is_among-with : (t u : Template) (shapes : List Template) → is_among t (with_shape shapes u) ≡ (is_among t shapes || same_template t u)
is_among-with t u shapes = by_test (is_among u shapes) refl where
  by_test : (b : Bool) → is_among u shapes ≡ b → is_among t (cond b shapes (shapes ++ u ∷ [])) ≡ (is_among t shapes || same_template t u)
  by_test true is = by_same (same_template t u) refl where
    by_same : (c : Bool) → same_template t u ≡ c → is_among t shapes ≡ (is_among t shapes || c)
    by_same true same =
        let found : is_among t shapes ≡ true = ap (λ (s : Template). is_among s shapes) (same_template-is t u same) ∙ is in
        rw found refl
    by_same false same = sym (or_false (is_among t shapes))
  by_test false is = list_any-append (same_template t) shapes (u ∷ []) ∙ ap (λ (c : Bool). is_among t shapes || c) (or_false (same_template t u))

-- a shape is among those with it
pub is_among-itself : (shapes : List Template) (t : Template) → is_among t (with_shape shapes t) ≡ true
is_among-itself shapes t = is_among-with t t shapes ∙ ap (λ (b : Bool). is_among t shapes || b) (same_template-itself t) ∙ or_true (is_among t shapes) where
  or_true : (b : Bool) → (b || true) ≡ true
  or_true true = refl
  or_true false = refl

-- ---- the first record apart from the others

first_use-cons : (r : DataRecord) (before : List DataRecord) (e : DataRecord) → first_use (r ∷ before) e ≡ filter (λ t. not (same_template t r.template)) (first_use before e)
first_use-cons r before e = by_tests (same_template e.template r.template) refl (is_used e.template before) where
  by_tests : (b : Bool) → same_template e.template r.template ≡ b → (c : Bool) → cond (b || c) [] (e.template ∷ []) ≡ filter (λ t. not (same_template t r.template)) (cond c [] (e.template ∷ []))
  by_tests true is true = refl
  by_tests false is true = refl
  by_tests true is false = rw is refl
  by_tests false is false = rw is refl

each_after-cons : (r : DataRecord) (before rs : List DataRecord) → each_after first_use (r ∷ before) rs ≡ filter (λ t. not (same_template t r.template)) (each_after first_use before rs)
each_after-cons r before [] = refl
each_after-cons r before (e ∷ rs) =
    ap (λ (ts : List Template). ts ++ each_after first_use (r ∷ (before ++ e ∷ [])) rs) (first_use-cons r before e)
    ∙ ap (λ (ts : List Template). filter (λ t. not (same_template t r.template)) (first_use before e) ++ ts) (each_after-cons r (before ++ e ∷ []) rs)
    ∙ sym (filter-append (λ t. not (same_template t r.template)) (first_use before e) (each_after first_use (before ++ e ∷ []) rs))

-- the first shape, and those of the other records that are not that one
shapes_of-first : (r : DataRecord) (rs : List DataRecord) → shapes_of (r ∷ rs) ≡ r.template ∷ filter (λ t. not (same_template t r.template)) (shapes_of rs)
unfolding shapes_of
shapes_of-first r rs = ap (λ (ts : List Template). r.template ∷ ts) (each_after-cons r [] rs)

filter-filter : {A : Type 0} (p q : A → Bool) (xs : List A) → filter p (filter q xs) ≡ filter (λ x. q x && p x) xs
filter-filter p q [] = refl
filter-filter p q (x ∷ xs) = by_test (q x) (filter-filter p q xs) where
  by_test : (b : Bool) → filter p (filter q xs) ≡ filter (λ x. q x && p x) xs → filter p (cond b (x ∷ filter q xs) (filter q xs)) ≡ cond (b && p x) (x ∷ filter (λ x. q x && p x) xs) (filter (λ x. q x && p x) xs)
  by_test true others = by_other (p x) where
    by_other : (c : Bool) → cond c (x ∷ filter p (filter q xs)) (filter p (filter q xs)) ≡ cond c (x ∷ filter (λ x. q x && p x) xs) (filter (λ x. q x && p x) xs)
    by_other true = ap (λ ys. x ∷ ys) others
    by_other false = others
  by_test false others = others

neither : (a b : Bool) → (not b && not a) ≡ not (a || b)
neither true true = refl
neither true false = refl
neither false true = refl
neither false false = refl

new_with : (shapes : List Template) (t : Template) (ts : List Template) → filter (λ u. not (is_among u shapes)) (filter (λ u. not (same_template u t)) ts) ≡ filter (λ u. not (is_among u (with_shape shapes t))) ts
new_with shapes t ts =
    filter-filter (λ u. not (is_among u shapes)) (λ u. not (same_template u t)) ts
    ∙ filter_agree (λ u. not (same_template u t) && not (is_among u shapes)) (λ u. not (is_among u (with_shape shapes t))) (λ u. neither (is_among u shapes) (same_template u t) ∙ ap not (sym (is_among-with u t shapes))) ts

-- ---- one record after another

pub shapes_after-nil : (shapes : List Template) → shapes_after shapes [] ≡ shapes
unfolding shapes_after shapes_of
shapes_after-nil shapes = append-nil shapes

pub shapes_after-first : (shapes : List Template) (r : DataRecord) (rs : List DataRecord) → shapes_after shapes (r ∷ rs) ≡ shapes_after (with_shape shapes r.template) rs
unfolding shapes_after
shapes_after-first shapes r rs =
    ap (λ (ts : List Template). shapes ++ filter (λ u. not (is_among u shapes)) ts) (shapes_of-first r rs)
    ∙ by_test (is_among r.template shapes) (filter (λ u. not (is_among u shapes)) (filter (λ u. not (same_template u r.template)) (shapes_of rs)))
    ∙ ap (λ (ts : List Template). with_shape shapes r.template ++ ts) (new_with shapes r.template (shapes_of rs)) where
      by_test : (b : Bool) (ts : List Template) → shapes ++ cond (not b) (r.template ∷ ts) ts ≡ cond b shapes (shapes ++ r.template ∷ []) ++ ts
      by_test true ts = refl
      by_test false ts = sym (append_assoc shapes (r.template ∷ []) ts)

pub shapes_after-append : (shapes : List Template) (xs ys : List DataRecord) → shapes_after shapes (xs ++ ys) ≡ shapes_after (shapes_after shapes xs) ys
shapes_after-append shapes [] ys = ap (λ (ss : List Template). shapes_after ss ys) (sym (shapes_after-nil shapes))
shapes_after-append shapes (x ∷ xs) ys =
    shapes_after-first shapes x (xs ++ ys)
    ∙ shapes_after-append (with_shape shapes x.template) xs ys
    ∙ ap (λ (ss : List Template). shapes_after ss ys) (sym (shapes_after-first shapes x xs))

filter-all : {A : Type 0} (xs : List A) → filter (λ x. true) xs ≡ xs
filter-all [] = refl
filter-all (x ∷ xs) = ap (λ ys. x ∷ ys) (filter-all xs)

shapes_after-none : (records : List DataRecord) → shapes_after [] records ≡ shapes_of records
unfolding shapes_after
shapes_after-none records = filter-all (shapes_of records)

-- the shapes of a longer list are those of its front, and those of the rest that are not among them
pub shapes_on : (records more : List DataRecord) → shapes_of (records ++ more) ≡ shapes_after (shapes_of records) more
shapes_on records more =
    sym (shapes_after-none (records ++ more))
    ∙ shapes_after-append [] records more
    ∙ ap (λ (ss : List Template). shapes_after ss more) (shapes_after-none records)

pub shapes_of-push : (records : List DataRecord) (r : DataRecord) → shapes_of (records ++ r ∷ []) ≡ with_shape (shapes_of records) r.template
shapes_of-push records r =
    shapes_on records (r ∷ []) ∙ shapes_after-first (shapes_of records) r [] ∙ shapes_after-nil (with_shape (shapes_of records) r.template)

-- a shape is among those of more records, where it was before or one of the records has it
pub is_among-after : (t : Template) (shapes : List Template) (rs : List DataRecord) → is_among t (shapes_after shapes rs) ≡ (is_among t shapes || is_used t rs)
is_among-after t shapes [] = ap (is_among t) (shapes_after-nil shapes) ∙ sym (or_false (is_among t shapes))
is_among-after t shapes (r ∷ rs) =
    ap (is_among t) (shapes_after-first shapes r rs)
    ∙ is_among-after t (with_shape shapes r.template) rs
    ∙ ap (λ (b : Bool). b || is_used t rs) (is_among-with t r.template shapes)
    ∙ or_assoc (is_among t shapes) (same_template t r.template) (is_used t rs)

pub length-shapes_after : (shapes : List Template) (rs : List DataRecord) → length shapes ≤ length (shapes_after shapes rs)
unfolding shapes_after
length-shapes_after shapes rs =
    omega (arith, length-append shapes (filter (λ u. not (is_among u shapes)) (shapes_of rs)))
