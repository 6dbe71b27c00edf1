-- When two groups are one, and the order of groups: by start, interval, grace, name, key and the key's octets. This project's own
-- rule.
use Rattle.std.specs.Prelude.{◌≡◌, ℕ, Bool, true, List, ◌++◌, Option, Some, None, nat_eq, ◌==◌, ◌&&◌, refl}
use Rattle.std.proofs.Common.{sym, ap, ◌∙◌}
use Rattle.std.proofs.lemmas.Bool.{eqb-true, eq-eqb, and_parts, and_from}
use Rattle.std.specs.declared.cmp.Ordering.{Ordering}
use Rattle.std.specs.Ordering.{ordering_then, is_eq, eq_by_cmp, nat_cmp}
use Rattle.std.specs.Option.{option_cmp}
use Rattle.std.specs.Hash as fed
use Rattle.std.specs.Cmp.{IsPartialEquivalence, IsEquivalence, IsPartialOrder, IsTotalOrder, partial_equiv_from_equiv, decided, on_total, then_total, nat_cmp_total, unsigned_ties, both_tied, po}
use Rattle.std.specs.Cmp.Lexicographic.{pointwise, pointwise_decides, bytes_decides, slice_cmp, lists_total, lists_ties, options_total, nat_list_cmp_total}
use Rattle.ipfix_element.specs.Element.{Element}
use Rattle.ipfix_template.specs.Equality.{same_pen}
use Rattle.ipfix_template.specs.SameTemplate.{pen_is}
use Rattle.policy_text.specs.Policies.{Aggregate}
use Rattle.policy_judge.specs.Match.{is_same_element}
use Rattle.flow_aggregate.specs.Groups.{Group}

-- ---- equality

abbrev pub same_elements : List Element → List Element → Bool
same_elements es fs = pointwise is_same_element es fs

abbrev pub same_definition : Aggregate → Aggregate → Bool
same_definition a b = a.interval == b.interval && (a.grace == b.grace && (pointwise nat_eq a.name b.name && same_elements a.key b.key))

abbrev pub same_group : Group → Group → Bool
same_group g h = g.start == h.start && (same_definition g.definition h.definition && pointwise nat_eq g.key h.key)

-- ---- order

abbrev pub element_cmp : Element → Element → Ordering
element_cmp e f = ordering_then (option_cmp nat_cmp e.pen f.pen) (nat_cmp e.number f.number)

abbrev pub definition_cmp : Aggregate → Aggregate → Ordering
definition_cmp a b =
    ordering_then (nat_cmp a.interval b.interval) (ordering_then (nat_cmp a.grace b.grace)
    (ordering_then (slice_cmp nat_cmp a.name b.name) (slice_cmp element_cmp a.key b.key)))

abbrev pub group_cmp : Group → Group → Ordering
group_cmp g h =
    ordering_then (nat_cmp g.start h.start) (ordering_then (definition_cmp g.definition h.definition) (slice_cmp nat_cmp g.key h.key))

-- what a group gives to a hasher
abbrev pub hashed_group : Group → fed.HashWrites
hashed_group g = fed.u64 g.start ++ fed.slice fed.u8 g.key

-- ---- groups that the test finds equal are equal

pen_same : (p : Option ℕ) → same_pen p p ≡ true
pen_same None = refl
pen_same (Some a) = eq-eqb a a refl

element_from : (e f : Element) → e.pen ≡ f.pen → e.number ≡ f.number → e ≡ f
element_from e f pens numbers =
    let by_pen : Option ℕ → Element = λ p. record { pen = p; number = e.number } in
    let by_number : ℕ → Element = λ n. record { pen = f.pen; number = n } in
    ap by_pen pens ∙ ap by_number numbers

element_decides : (e f : Element) → (is_same_element e f ≡ true → e ≡ f) × (e ≡ f → is_same_element e f ≡ true)
element_decides e f = (
  λ is. let parts = and_parts (same_pen e.pen f.pen) (e.number == f.number) is in element_from e f (pen_is e.pen f.pen parts.0) (eqb-true e.number f.number parts.1),
  λ same. ap (λ x. is_same_element e x) (sym same) ∙ and_from (same_pen e.pen e.pen) (e.number == e.number) (pen_same e.pen) (eq-eqb e.number e.number refl),
)

elements_decide : (es fs : List Element) → (same_elements es fs ≡ true → es ≡ fs) × (es ≡ fs → same_elements es fs ≡ true)
elements_decide es fs = pointwise_decides element_decides es fs

abbrev definition_of : List ℕ → List Element → ℕ → ℕ → Aggregate
definition_of name key interval grace = record { name = name; key = key; interval = interval; grace = grace }

definition_from : (a b : Aggregate) → a.interval ≡ b.interval → a.grace ≡ b.grace → a.name ≡ b.name → a.key ≡ b.key → a ≡ b
definition_from a b interval grace name key =
    ap (λ n. definition_of n a.key a.interval a.grace) name ∙ ap (λ k. definition_of b.name k a.interval a.grace) key
    ∙ ap (λ i. definition_of b.name b.key i a.grace) interval ∙ ap (λ g. definition_of b.name b.key b.interval g) grace

definition_is : (a b : Aggregate) → same_definition a b ≡ true → a ≡ b
definition_is a b is =
    let one = and_parts (a.interval == b.interval) (a.grace == b.grace && (pointwise nat_eq a.name b.name && same_elements a.key b.key)) is in
    let two = and_parts (a.grace == b.grace) (pointwise nat_eq a.name b.name && same_elements a.key b.key) one.1 in
    let three = and_parts (pointwise nat_eq a.name b.name) (same_elements a.key b.key) two.1 in
    definition_from a b (eqb-true a.interval b.interval one.0) (eqb-true a.grace b.grace two.0) ((bytes_decides a.name b.name).0 three.0) ((elements_decide a.key b.key).0 three.1)

definition_itself : (a : Aggregate) → same_definition a a ≡ true
definition_itself a =
    and_from (a.interval == a.interval) _ (eq-eqb a.interval a.interval refl) (and_from (a.grace == a.grace) _ (eq-eqb a.grace a.grace refl)
    (and_from (pointwise nat_eq a.name a.name) _ ((bytes_decides a.name a.name).1 refl) ((elements_decide a.key a.key).1 refl)))

abbrev group_from_parts : ℕ → Aggregate → List ℕ → Group
group_from_parts start definition key = record { start = start; definition = definition; key = key }

pub same_group-is : (g h : Group) → same_group g h ≡ true → g ≡ h
same_group-is g h is =
    let one = and_parts (g.start == h.start) (same_definition g.definition h.definition && pointwise nat_eq g.key h.key) is in
    let two = and_parts (same_definition g.definition h.definition) (pointwise nat_eq g.key h.key) one.1 in
    ap (λ n. group_from_parts n g.definition g.key) (eqb-true g.start h.start one.0)
    ∙ ap (λ d. group_from_parts h.start d g.key) (definition_is g.definition h.definition two.0)
    ∙ ap (λ k. group_from_parts h.start h.definition k) ((bytes_decides g.key h.key).0 two.1)

pub same_group-itself : (g : Group) → same_group g g ≡ true
same_group-itself g =
    and_from (g.start == g.start) _ (eq-eqb g.start g.start refl)
    (and_from (same_definition g.definition g.definition) _ (definition_itself g.definition) ((bytes_decides g.key g.key).1 refl))

pub same_group-whole : IsEquivalence same_group
same_group-whole = decided same_group (λ g h. (same_group-is g h, λ e. ap (same_group g) (sym e) ∙ same_group-itself g))

pub same_group-partial : IsPartialEquivalence same_group
same_group-partial = partial_equiv_from_equiv same_group-whole

pub same_group-hashed : (g h : Group) → same_group g h ≡ true → hashed_group g ≡ hashed_group h
same_group-hashed g h e = ap hashed_group (same_group-is g h e)

-- ---- the order is total, and its ties are those groups

element_total : IsTotalOrder element_cmp
element_total = then_total (on_total (λ (e : Element). e.pen) (options_total nat_cmp_total)) (on_total (λ (e : Element). e.number) nat_cmp_total)

definition_total : IsTotalOrder definition_cmp
definition_total =
    then_total (on_total (λ (a : Aggregate). a.interval) nat_cmp_total) (then_total (on_total (λ (a : Aggregate). a.grace) nat_cmp_total)
    (then_total (on_total (λ (a : Aggregate). a.name) nat_list_cmp_total) (on_total (λ (a : Aggregate). a.key) (lists_total element_total))))

pub group_total : IsTotalOrder group_cmp
group_total =
    then_total (on_total (λ (g : Group). g.start) nat_cmp_total)
    (then_total (on_total (λ (g : Group). g.definition) definition_total) (on_total (λ (g : Group). g.key) nat_list_cmp_total))

pen_ties : (p q : Option ℕ) → same_pen p q ≡ is_eq (option_cmp nat_cmp p q)
pen_ties None None = refl
pen_ties None (Some b) = refl
pen_ties (Some a) None = refl
pen_ties (Some a) (Some b) = unsigned_ties a b

element_ties : (e f : Element) → is_same_element e f ≡ eq_by_cmp element_cmp e f
element_ties e f = both_tied _ _ _ _ (pen_ties e.pen f.pen) (unsigned_ties e.number f.number)

definition_ties : (a b : Aggregate) → same_definition a b ≡ is_eq (definition_cmp a b)
definition_ties a b =
    both_tied _ _ _ _ (unsigned_ties a.interval b.interval) (both_tied _ _ _ _ (unsigned_ties a.grace b.grace)
    (both_tied _ _ _ _ (lists_ties nat_cmp unsigned_ties a.name b.name) (lists_ties element_cmp element_ties a.key b.key)))

pub group_ties : (g h : Group) → same_group g h ≡ eq_by_cmp group_cmp g h
group_ties g h =
    both_tied _ _ _ _ (unsigned_ties g.start h.start) (both_tied _ _ _ _ (definition_ties g.definition h.definition) (lists_ties nat_cmp unsigned_ties g.key h.key))

pub group_po : IsPartialOrder same_group (λ g h. Some (group_cmp g h))
group_po = po group_total group_ties
