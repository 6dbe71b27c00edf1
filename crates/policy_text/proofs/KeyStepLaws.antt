-- A key is one that grows element by element, as reading adds them.
use Rattle.std.proofs.Common.{◌≡◌, ℕ, ◌+◌, ◌<◌, ◌≤◌, Bool, true, false, cond, ◌&&◌, not, eqb, ltb, List, [], ◌∷◌, ◌++◌, length, Option, Some, None, Result, Ok, Err, refl, sym, ap, ◌∙◌, subst, arith, ⊎_elim, append_assoc, append-nil, length-append}
use Rattle.std.specs.List.{AllByRecursion, list_any}
use Rattle.std.proofs.lemmas.List.Folds.{list_any-append}
use Rattle.std.proofs.lemmas.Bool.{cases_Bool, and_parts, ltb-true, lt-ltb, eqb-true, false_from_ne_true, false≢true, or_parts, eq-eqb, not-true}
use Rattle.ipfix_element.specs.Element.{Element, IsElement}
use Rattle.ipfix_element.specs.Registry.{line_for}
use Rattle.ipfix_element.specs.Kinds.{kind_on, kind_of}
use Rattle.ipfix_element.proofs.NameLaws.{same_element}
use Rattle.policy_text.specs.declared.fault.FaultKind.{FaultKind}
use Rattle.policy_text.specs.Classes.{is_key_kind, with_key}
use Rattle.policy_text.specs.Grammar.{IsKey}

-- elements that reading adds to those before
abbrev pub IsKeyAfter : List Element → List Element → Type 0
IsKeyAfter before [] = Unit {0}
IsKeyAfter before (e ∷ es) = IsElement e × (with_key before e ≡ Ok (before ++ e ∷ [])) × IsKeyAfter (before ++ e ∷ []) es

-- what is asked of an element that is added
record MayFollow (before : List Element) (e : Element) : Type 0 where
  kind : is_key_kind (kind_of e) ≡ true
  other : list_any (λ k. eqb k.number e.number) before ≡ false
  room : length before < 16

passed : {A : Type 0} (b : Bool) (kind : FaultKind) (x y : A) → ◌≡◌ {A = Result A FaultKind} (cond b (Ok x) (Err kind)) (Ok y) → b ≡ true
passed true kind x y e = refl
passed false kind x y e = cc

with_key-asks : (before more : List Element) (e : Element) → with_key before e ≡ Ok more → MayFollow before e
unfolding with_key
with_key-asks before more e h =
    let double = list_any (λ k. eqb k.number e.number) before in
    let all = and_parts (is_key_kind (kind_of e)) (not double && ltb (length before) 16) (passed _ _ (before ++ e ∷ []) more h) in
    let others = and_parts (not double) (ltb (length before) 16) all.1 in
    record { kind = all.0; other = not-true double others.0; room = ltb-true (length before) 16 others.1 }

with_key-adds : (before : List Element) (e : Element) → MayFollow before e → with_key before e ≡ Ok (before ++ e ∷ [])
unfolding with_key
with_key-adds before e h = rw (h.kind, h.other, lt-ltb (length before) 16 h.room) refl

-- an element that stands in a list
all_at : (P : Element → Type 0) (before after : List Element) (e : Element) → AllByRecursion P (before ++ e ∷ after) → P e
all_at P [] after e h = h.0
all_at P (b ∷ before) after e h = all_at P before after e h.1

record Found (test : Element → Bool) (xs : List Element) : Type 0 where
  before : List Element
  it : Element
  after : List Element
  xs_are : xs ≡ before ++ it ∷ after
  passes : test it ≡ true

found : (test : Element → Bool) (xs : List Element) → list_any test xs ≡ true → Found test xs
found test [] e = absurd (false≢true e)
found test (x ∷ xs) e =
    ⊎_elim (λ (here : test x ≡ true). record { before = []; it = x; after = xs; xs_are = refl; passes = here })
    (λ (apart : test x ≡ false).
    let later = found test xs (rw apart at e) in
    record { before = x ∷ later.before; it = later.it; after = later.after; xs_are = ap (λ l. x ∷ l) later.xs_are; passes = later.passes })
    (cases_Bool (test x))

-- elements with an enterprise number are octets, and so of no kind for keys
no_pen : (pen : Option ℕ) (number : ℕ) → is_key_kind (kind_on (line_for pen number)) ≡ true → pen ≡ None
no_pen None number h = refl
no_pen (Some pen) number h = absurd (false≢true h)

told_by_number : (k e : Element) → is_key_kind (kind_of k) ≡ true → is_key_kind (kind_of e) ≡ true → eqb k.number e.number ≡ true → k ≡ e
unfolding kind_of
told_by_number k e h g same = same_element k e (no_pen k.pen k.number h ∙ sym (no_pen e.pen e.number g)) (eqb-true k.number e.number same)

-- what grows so is a key
elements_after : (before key : List Element) → IsKeyAfter before key → AllByRecursion IsElement key
elements_after before [] h = tt
elements_after before (e ∷ es) h = (h.0, elements_after (before ++ e ∷ []) es h.2)

kinds_after : (before key : List Element) → IsKeyAfter before key → AllByRecursion (λ e. is_key_kind (kind_of e) ≡ true) key
kinds_after before [] h = tt
kinds_after before (e ∷ es) h = let asked = with_key-asks before (before ++ e ∷ []) e h.1 in (asked.kind, kinds_after (before ++ e ∷ []) es h.2)

few_after : (before key : List Element) → IsKeyAfter before key → length before ≤ 16 → length before + length key ≤ 16
few_after before [] h few = omega (arith, few)
few_after before (e ∷ es) h few =
    let asked = with_key-asks before (before ++ e ∷ []) e h.1 in
    let room = asked.room in
    let count = length-append before (e ∷ []) in
    omega (arith, count, few_after (before ++ e ∷ []) es h.2 (omega (arith, count, room)))

others_after : (before front back : List Element) (e : Element) → IsKeyAfter before (front ++ e ∷ back) → list_any (λ k. eqb k.number e.number) (before ++ front) ≡ false
others_after before [] back e h =
    let asked = with_key-asks before (before ++ e ∷ []) e h.1 in
    ap (list_any (λ k. eqb k.number e.number)) (append-nil before) ∙ asked.other
others_after before (k ∷ front) back e h =
    ap (list_any (λ k. eqb k.number e.number)) (sym (append_assoc before (k ∷ []) front)) ∙ others_after (before ++ k ∷ []) front back e h.2

stands_twice : (before between : List Element) (e : Element) → list_any (λ k. eqb k.number e.number) (before ++ e ∷ between) ≡ false → ⊥
stands_twice before between e h =
    let test : Element → Bool = λ k. eqb k.number e.number in
    let parts = or_parts (list_any test before) (list_any test (e ∷ between)) (sym (list_any-append test before (e ∷ between)) ∙ h) in
    let here = or_parts (eqb e.number e.number) (list_any test between) parts.1 in
    false≢true (sym here.0 ∙ eq-eqb e.number e.number refl)

pub as_key : (key : List Element) → IsKeyAfter [] key → IsKey key
as_key key h = record {
  elements = elements_after [] key h;
  kinds = kinds_after [] key h;
  once = λ before between after e same.
      let P : List Element → Type 0 = λ k. IsKeyAfter [] k in
      stands_twice before between e (others_after [] (before ++ e ∷ between) after e (subst P same h));
  few = omega (arith, few_after [] key h (omega arith));
}

-- and a key grows so
other_than : (key before es : List Element) (e : Element) → key ≡ before ++ e ∷ es → IsKey key → list_any (λ k. eqb k.number e.number) before ≡ false
other_than key before es e is h = false_from_ne_true (list_any (λ k. eqb k.number e.number) before) (λ double.
    let P : List Element → Type 0 = λ l. AllByRecursion (λ k. is_key_kind (kind_of k) ≡ true) l in
    let f = found (λ k. eqb k.number e.number) before double in
    let whole : key ≡ (f.before ++ f.it ∷ f.after) ++ e ∷ es = is ∙ ap (λ l. l ++ e ∷ es) f.xs_are in
    let same = told_by_number f.it e
    (all_at (λ k. is_key_kind (kind_of k) ≡ true) f.before (f.after ++ e ∷ es) f.it (subst P (whole ∙ append_assoc f.before (f.it ∷ f.after) (e ∷ es)) h.kinds))
    (all_at (λ k. is_key_kind (kind_of k) ≡ true) before es e (subst P is h.kinds))
    f.passes in
    h.once f.before f.after es e (whole ∙ ap (λ x. (f.before ++ x ∷ f.after) ++ e ∷ es) same))

grows : (key before es : List Element) → key ≡ before ++ es → IsKey key → IsKeyAfter before es
grows key before [] is h = tt
grows key before (e ∷ es) is h =
    let P : List Element → Type 0 = λ l. AllByRecursion IsElement l in
    let Q : List Element → Type 0 = λ l. AllByRecursion (λ k. is_key_kind (kind_of k) ≡ true) l in
    let few = h.few in (
      all_at IsElement before es e (subst P is h.elements),
      with_key-adds before e (record {
        kind = all_at (λ k. is_key_kind (kind_of k) ≡ true) before es e (subst Q is h.kinds);
        other = other_than key before es e is h;
        room = omega (arith, few, ap length is, length-append before (e ∷ es));
      }),
      grows key (before ++ e ∷ []) es (is ∙ sym (append_assoc before (e ∷ []) es)) h,
    )

pub step_by_step : (key : List Element) → IsKey key → IsKeyAfter [] key
step_by_step key h = grows key [] key refl h
