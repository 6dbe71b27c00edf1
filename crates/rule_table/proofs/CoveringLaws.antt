-- A prefix is held against numbers in order.
use Rattle.std.proofs.Common.{◌≡◌, ℕ, zero, suc, ◌*◌, ◌/◌, ◌-◌, ◌^◌, ◌<◌, ◌≤◌, Bool, true, false, List, [], ◌∷◌, length, get_or, map, filter, Option, Some, None, cond, not, refl, ap, sym, ◌∙◌, subst, arith, nat_lt, ◌&&◌, ◌||◌, ◌==◌}
use Rattle.std.specs.Prelude.{slice_get}
use Rattle.std.specs.List.{Contains, list_any, list_all, filter_map, cons_option, zip}
use Rattle.std.specs.List.Sorted.{IsPermutation, IsNonDecreasing}
use Rattle.std.proofs.Math.Nat.{div-mul-le_self, mul-le-mul_right, mul-div_cancel}
use Rattle.std.proofs.lemmas.Nat.{le-div, pow_pos}
use Rattle.std.proofs.lemmas.Bool.{and_parts, and_from, or_left, or_right, eqb-true, eq-eqb, ne_eqb}
use Rattle.std.proofs.lemmas.Option.{slice_get_within, get_or_from_slice_get}
use Rattle.std.proofs.lemmas.List.{get_or_default}
use Rattle.std.proofs.lemmas.List.Sorted.{list_any-IsPermutation, length_permutation}
use Rattle.sequences.specs.Octets.{be_value}
use Rattle.flow_prefix.specs.declared.prefix.Prefix.{Prefix}
use Rattle.flow_prefix.specs.declared.prefix.Prefix.TheVariants.{V4, V6}
use Rattle.flow_prefix.specs.Bits.{truncated}
use Rattle.flow_prefix.specs.Net.{Net}
use Rattle.ipfix_element.specs.Element.{Element}
use Rattle.ipfix_template.specs.declared.field.FieldSpec.{FieldSpec}
use Rattle.ipfix_template.specs.DataRecord.{DataRecord, IsSound}
use Rattle.ipfix_template.proofs.Encoding.{fit_fields-length}
use Rattle.policy_judge.specs.declared.occurrences.Side.{Side}
use Rattle.policy_judge.specs.Occurrences.{values_of}
use Rattle.policy_judge.specs.Sides.{is_of}
use Rattle.policy_judge.specs.Match.{are_inside}
use Rattle.rule_table.specs.declared.addresses.Address.{Address}
use Rattle.rule_table.specs.Addresses.{address_value, address_at, addresses_of}
use Rattle.rule_table.specs.Covering.{AreSortedNumbers, number_at_width, number_if, numbers_of, has_first_bits, are_in}
use Rattle.rule_table.proofs.Members.{Passing, passing, here, behind}

-- ---- tests of lists

pub by_both : (a b : Bool) → (a ≡ true → b ≡ true) → (b ≡ true → a ≡ true) → a ≡ b
by_both true b to from = sym (to refl)
by_both false true to from = from refl
by_both false false to from = refl

any_at : (test : ℕ → Bool) (xs : List ℕ) (x k : ℕ) → k < length xs → get_or xs k x ≡ x → test x ≡ true → list_any test xs ≡ true
any_at test [] x k l at e = absurd (omega arith)
any_at test (y ∷ ys) x zero l at e = or_left (test y) (list_any test ys) (ap test at ∙ e)
any_at test (y ∷ ys) x (suc k) l at e = or_right (test y) (list_any test ys) (any_at test ys x k (omega arith) at e)

pub any_from : (test : ℕ → Bool) (xs : List ℕ) (x : ℕ) → Contains xs x → test x ≡ true → list_any test xs ≡ true
any_from test xs x (k, l, at) e = any_at test xs x k l at e

pub all_from : (test : ℕ → Bool) (xs : List ℕ) → ((x : ℕ) → Contains xs x → test x ≡ true) → list_all test xs ≡ true
all_from test [] each = refl
all_from test (y ∷ ys) each = and_from _ _ (each y (here y y ys refl)) (all_from test ys (λ x c. each x (behind y x ys c)))

all_at : (test : ℕ → Bool) (xs : List ℕ) (x k : ℕ) → k < length xs → get_or xs k x ≡ x → list_all test xs ≡ true → test x ≡ true
all_at test [] x k l at e = absurd (omega arith)
all_at test (y ∷ ys) x zero l at e = ap test (sym at) ∙ (and_parts (test y) (list_all test ys) e).0
all_at test (y ∷ ys) x (suc k) l at e = all_at test ys x k (omega arith) at (and_parts (test y) (list_all test ys) e).1

pub all_has : (test : ℕ → Bool) (xs : List ℕ) (x : ℕ) → Contains xs x → list_all test xs ≡ true → test x ≡ true
all_has test xs x (k, l, at) e = all_at test xs x k l at e

not_step : (a b : Bool) → (a && not b) ≡ not (not a || b)
not_step true b = refl
not_step false b = refl

all_is : (test : ℕ → Bool) (xs : List ℕ) → list_all test xs ≡ not (list_any (λ x. not (test x)) xs)
all_is test [] = refl
all_is test (y ∷ ys) = ap (λ b. test y && b) (all_is test ys) ∙ not_step (test y) (list_any (λ x. not (test x)) ys)

all_permuted : (test : ℕ → Bool) (xs ys : List ℕ) → IsPermutation xs ys → list_all test xs ≡ list_all test ys
all_permuted test xs ys p = all_is test xs ∙ ap not (list_any-IsPermutation (λ x. not (test x)) xs ys p) ∙ sym (all_is test ys)

-- ---- the first bits of numbers in order

first_bits_le : (w n u v : ℕ) → u ≤ v → truncated w n u ≤ truncated w n v
first_bits_le w n u v l =
    let unit = 2 ^ (w - n) in
    let below : u / unit * unit ≤ v = omega (arith, div-mul-le_self u unit, l) in
    mul-le-mul_right unit (le-div (u / unit) v unit (pow_pos (w - n)) below)

first_bits_again : (w n v : ℕ) → truncated w n (truncated w n v) ≡ truncated w n v
first_bits_again w n v = ap (λ q. q * 2 ^ (w - n)) (mul-div_cancel (v / 2 ^ (w - n)) (pow_pos (w - n)))

-- what stands between two numbers inside is inside
between : (w n a u v x : ℕ) → has_first_bits w n a u ≡ true → has_first_bits w n a v ≡ true → u ≤ x → x ≤ v → has_first_bits w n a x ≡ true
between w n a u v x iu iv lu lv =
    let eu = eqb-true (truncated w n u) a iu in
    let ev = eqb-true (truncated w n v) a iv in
    let up = first_bits_le w n u x lu in
    let down = first_bits_le w n x v lv in
    eq-eqb (truncated w n x) a (omega (arith, eu, ev, up, down))

-- what is between the prefix and a number inside is inside
from_address : (w n a v x : ℕ) → has_first_bits w n a v ≡ true → a ≤ x → x ≤ v → has_first_bits w n a x ≡ true
from_address w n a v x iv low high =
    let ev = eqb-true (truncated w n v) a iv in
    let self : truncated w n a ≡ a = ap (truncated w n) (sym ev) ∙ first_bits_again w n v ∙ ev in
    between w n a a v x (eq-eqb (truncated w n a) a self) iv low high

-- not below the prefix
not_below : (w n a v : ℕ) → has_first_bits w n a v ≡ true → a ≤ v
not_below w n a v iv =
    let ev = eqb-true (truncated w n v) a iv in
    omega (arith, ev, div-mul-le_self v (2 ^ (w - n)))

pub first_least : (xs : List ℕ) (first x : ℕ) → IsNonDecreasing xs → slice_get xs 0 ≡ Some first → Contains xs x → first ≤ x
first_least xs first x up at (k, l, is) =
    let one = get_or_from_slice_get xs 0 first first at in
    let le : get_or xs 0 first ≤ get_or xs k first = up 0 k first (omega arith) l in
    let other = get_or_default xs k first x l in
    omega (arith, one, le, other, is)

pub last_most : (xs : List ℕ) (last x : ℕ) → IsNonDecreasing xs → last ≡ get_or xs (length xs - 1) last → Contains xs x → x ≤ last
last_most xs last x up end (k, l, is) =
    let le : get_or xs k last ≤ get_or xs (length xs - 1) last = up k (length xs - 1) last (omega arith) (omega arith) in
    let other = get_or_default xs k last x l in
    omega (arith, le, other, is, end)

-- the first that isn't below the prefix is inside, if any is
pub some_in_first : (w n a : ℕ) (xs rest : List ℕ) (first : ℕ) → IsNonDecreasing rest → ((x : ℕ) → Contains rest x → Contains xs x) → ((x : ℕ) → a ≤ x → Contains xs x → Contains rest x)
    → ((x : ℕ) → Contains rest x → a ≤ x) → slice_get rest 0 ≡ Some first → has_first_bits w n a first ≡ list_any (has_first_bits w n a) xs
some_in_first w n a xs rest first up among kept above at =
    let there : Contains rest first = (0, slice_get_within rest 0 first at, get_or_from_slice_get rest 0 first first at) in
    by_both (has_first_bits w n a first) (list_any (has_first_bits w n a) xs)
    (λ e. any_from (has_first_bits w n a) xs first (among first there) e)
    (λ e. let p : Passing (has_first_bits w n a) xs = passing _ xs e in
    from_address w n a p.item first p.passes (above first there) (first_least rest first p.item up at (kept p.item (not_below w n a p.item p.passes) p.among)))

pub some_in_none : (w n a : ℕ) (xs rest : List ℕ) → ((x : ℕ) → a ≤ x → Contains xs x → Contains rest x) → slice_get rest 0 ≡ None → false ≡ list_any (has_first_bits w n a) xs
some_in_none w n a xs [] kept at =
    by_both false (list_any (has_first_bits w n a) xs) (λ e. absurd (cc))
    (λ e. let p : Passing (has_first_bits w n a) xs = passing _ xs e in nowhere (kept p.item (not_below w n a p.item p.passes) p.among))
  where
    nowhere : {x : ℕ} → Contains [] x → false ≡ true
    nowhere (k, l, is) = absurd (omega arith)
some_in_none w n a xs (y ∷ ys) kept at = absurd (cc)

-- all are inside, if the first and the last are
pub each_in_ends : (w n a : ℕ) (xs : List ℕ) (first : ℕ) → IsNonDecreasing xs → slice_get xs 0 ≡ Some first
    → (has_first_bits w n a first && has_first_bits w n a (get_or xs (length xs - 1) 0)) ≡ list_all (has_first_bits w n a) xs
each_in_ends w n a xs first up at =
    let last = get_or xs (length xs - 1) 0 in
    let within : 0 < length xs = slice_get_within xs 0 first at in
    let there : Contains xs first = (0, within, get_or_from_slice_get xs 0 first first at) in
    let end : get_or xs (length xs - 1) last ≡ last = get_or_default xs (length xs - 1) last 0 (omega arith) in
    let ends : Contains xs last = (length xs - 1, omega arith, end) in
    by_both (has_first_bits w n a first && has_first_bits w n a last) (list_all (has_first_bits w n a) xs)
    (λ e. let both = and_parts (has_first_bits w n a first) (has_first_bits w n a last) e in
    all_from (has_first_bits w n a) xs (λ x c. between w n a first last x both.0 both.1 (first_least xs first x up at c) (last_most xs last x up (sym end) c)))
    (λ e. and_from _ _ (all_has (has_first_bits w n a) xs first there e) (all_has (has_first_bits w n a) xs last ends e))

-- ---- values of so many octets, and their numbers

-- some value is inside
any_number : (n : ℕ) (test : ℕ → Bool) (values : List (List ℕ)) → list_any (λ v. length v == n && test (be_value v)) values ≡ list_any test (numbers_of n values)
any_number n test [] = refl
any_number n test (v ∷ vs) =
    elim (length v == n) as (λ b. ((b && test (be_value v)) || list_any (λ v. length v == n && test (be_value v)) vs) ≡ list_any test (cons_option (cond b (Some (be_value v)) None) (numbers_of n vs))) [
      | true ↦ ap (λ b. test (be_value v) || b) (any_number n test vs)
      | false ↦ any_number n test vs
    ]

few_numbers : (n : ℕ) (values : List (List ℕ)) → length (numbers_of n values) ≤ length values
few_numbers n [] = omega arith
few_numbers n (v ∷ vs) =
    let rest = few_numbers n vs in
    elim (length v == n) as (λ b. length (cons_option (cond b (Some (be_value v)) None) (numbers_of n vs)) ≤ suc (length vs)) [ true ↦ omega arith | false ↦ omega arith ]

swapped : (a b c : Bool) → (a && (b && c)) ≡ (b && (a && c))
swapped true b c = refl
swapped false true c = refl
swapped false false c = refl

next_same : (a b : ℕ) → (suc a == suc b) ≡ (a == b)
next_same a b = by_both (suc a == suc b) (a == b)
    (λ e. let same : suc a ≡ suc b = eqb-true (suc a) (suc b) e in eq-eqb a b (omega arith))
    (λ e. ap (λ n. suc a == suc n) (sym (eqb-true a b e)) ∙ eq-eqb (suc a) (suc a) refl)

-- each value is inside
all_number : (n : ℕ) (test : ℕ → Bool) (values : List (List ℕ))
    → list_all (λ v. length v == n && test (be_value v)) values ≡ (length (numbers_of n values) == length values && list_all test (numbers_of n values))
all_number n test [] = refl
all_number n test (v ∷ vs) =
    let few = few_numbers n vs in
    elim (length v == n) as (λ b. ((b && test (be_value v)) && list_all (λ v. length v == n && test (be_value v)) vs)
    ≡ (length (cons_option (cond b (Some (be_value v)) None) (numbers_of n vs)) == suc (length vs) && list_all test (cons_option (cond b (Some (be_value v)) None) (numbers_of n vs)))) [
      | true ↦ ap (λ b. test (be_value v) && b) (all_number n test vs) ∙ swapped (test (be_value v)) (length (numbers_of n vs) == length vs) (list_all test (numbers_of n vs))
          ∙ ap (λ b. b && (test (be_value v) && list_all test (numbers_of n vs))) (sym (next_same (length (numbers_of n vs)) (length vs)))
      | false ↦ ap (λ b. b && list_all test (numbers_of n vs)) (sym (ne_eqb (length (numbers_of n vs)) (suc (length vs)) (λ e. absurd (omega arith))))
    ]

are_in_order : (denies : Bool) (n w bits a count : ℕ) (values : List (List ℕ)) (numbers : List ℕ) → count ≡ length values → IsPermutation (numbers_of n values) numbers
    → are_in denies count w bits a numbers ≡ cond denies (list_any (λ v. length v == n && has_first_bits w bits a (be_value v)) values) (nat_lt 0 (length values) && list_all (λ v. length v == n && has_first_bits w bits a (be_value v)) values)
are_in_order true n w bits a count values numbers counted each =
    sym (list_any-IsPermutation (has_first_bits w bits a) (numbers_of n values) numbers each) ∙ sym (any_number n (has_first_bits w bits a) values)
are_in_order false n w bits a count values numbers counted each =
    let long = length_permutation (numbers_of n values) numbers each in
    rw (counted, long) (ap (λ b. nat_lt 0 (length values) && (length (numbers_of n values) == length values && b)) (sym (all_permuted (has_first_bits w bits a) (numbers_of n values) numbers each))
    ∙ ap (λ b. nat_lt 0 (length values) && b) (sym (all_number n (has_first_bits w bits a) values)))

pub narrow_in : (denies : Bool) (net : Net) (count : ℕ) (values : List (List ℕ)) (narrow wide : List ℕ) → AreSortedNumbers values count narrow wide
    → are_in denies count 32 net.length net.address narrow ≡ are_inside denies values (V4 net)
narrow_in true net count values narrow wide are = are_in_order true 4 32 net.length net.address count values narrow are.counted are.each_narrow
narrow_in false net count values narrow wide are = are_in_order false 4 32 net.length net.address count values narrow are.counted are.each_narrow

pub wide_in : (denies : Bool) (net : Net) (count : ℕ) (values : List (List ℕ)) (narrow wide : List ℕ) → AreSortedNumbers values count narrow wide
    → are_in denies count 128 net.length net.address wide ≡ are_inside denies values (V6 net)
wide_in true net count values narrow wide are = are_in_order true 16 128 net.length net.address count values wide are.counted are.each_wide
wide_in false net count values narrow wide are = are_in_order false 16 128 net.length net.address count values wide are.counted are.each_wide

-- ---- the numbers of a record's addresses

abbrev then_number : Option Address → (Address → Option ℕ) → Option ℕ
then_number None h = None
then_number (Some a) h = h a

number_there : (h : Address → Option ℕ) (o : Option Address) (rest : List Address) → filter_map h (cons_option o rest) ≡ cons_option (then_number o h) (filter_map h rest)
number_there h None rest = refl
number_there h (Some a) rest = refl

narrow_number : (v : List ℕ) → then_number (address_value v) (number_at_width 32) ≡ number_if 4 v
narrow_number v =
    elim (length v == 4) as (λ b. then_number (cond b (Some (record { width = 32; number = be_value v })) (cond (length v == 16) (Some (record { width = 128; number = be_value v })) None)) (number_at_width 32) ≡ cond b (Some (be_value v)) None) [
      | true ↦ refl
      | false ↦ elim (length v == 16) as (λ b. then_number (cond b (Some (record { width = 128; number = be_value v })) None) (number_at_width 32) ≡ None) [ true ↦ refl | false ↦ refl ]
    ]

wide_number : (v : List ℕ) → then_number (address_value v) (number_at_width 128) ≡ number_if 16 v
wide_number v =
    elim (length v == 4) as (λ b. (length v == 4) ≡ b → then_number (cond b (Some (record { width = 32; number = be_value v })) (cond (length v == 16) (Some (record { width = 128; number = be_value v })) None)) (number_at_width 128) ≡ number_if 16 v) [
      | true ↦ λ e. let other : (length v == 16) ≡ false = ap (λ n. n == 16) (eqb-true (length v) 4 e) in rw other refl
      | false ↦ λ e. elim (length v == 16) as (λ b. then_number (cond b (Some (record { width = 128; number = be_value v })) None) (number_at_width 128) ≡ cond b (Some (be_value v)) None) [ true ↦ refl | false ↦ refl ]
    ] refl

numbers_there : (side : Side) (w n : ℕ) → ((v : List ℕ) → then_number (address_value v) (number_at_width w) ≡ number_if n v) → (ps : List (FieldSpec × List ℕ))
    → filter_map (number_at_width w) (filter_map (address_at side) ps) ≡ numbers_of n (map (λ p. p.1) (filter (λ p. is_of side p.0.element) ps))
numbers_there side w n each [] = refl
numbers_there side w n each (p ∷ ps) =
    elim (is_of side p.0.element) as (λ b. filter_map (number_at_width w) (cons_option (cond b (address_value p.1) None) (filter_map (address_at side) ps))
    ≡ numbers_of n (map {A = FieldSpec × List ℕ} (λ q. q.1) (cond b (p ∷ filter {X = FieldSpec × List ℕ} (λ q. is_of side q.0.element) ps) (filter (λ q. is_of side q.0.element) ps)))) [
      | true ↦ number_there (number_at_width w) (address_value p.1) (filter_map (address_at side) ps) ∙ ap (λ o. cons_option o (filter_map (number_at_width w) (filter_map (address_at side) ps))) (each p.1)
          ∙ ap (λ xs. cons_option (number_if n p.1) xs) (numbers_there side w n each ps)
      | false ↦ numbers_there side w n each ps
    ]

pub in_order : (side : Side) (r : DataRecord) (addresses : List Address) (count : ℕ) (narrow wide : List ℕ) → addresses ≡ addresses_of side r → count ≡ length (values_of (is_of side) r)
    → IsPermutation (filter_map (number_at_width 32) addresses) narrow → IsNonDecreasing narrow → IsPermutation (filter_map (number_at_width 128) addresses) wide → IsNonDecreasing wide
    → AreSortedNumbers (values_of (is_of side) r) count narrow wide
in_order side r addresses count narrow wide are counted each_narrow narrow_up each_wide wide_up =
    let P : List ℕ → Type 0 = λ xs. IsPermutation xs narrow in
    let Q : List ℕ → Type 0 = λ xs. IsPermutation xs wide in
    record {
      counted = counted;
      each_narrow = subst P (ap (filter_map (number_at_width 32)) are ∙ numbers_there side 32 4 narrow_number (zip r.template.fields r.values)) each_narrow;
      narrow_ascending = narrow_up;
      each_wide = subst Q (ap (filter_map (number_at_width 128)) are ∙ numbers_there side 128 16 wide_number (zip r.template.fields r.values)) each_wide;
      wide_ascending = wide_up;
    }

-- ---- how many fields there are of a side

picked : (picks : Element → Bool) (fields : List FieldSpec) (values : List (List ℕ)) → length fields ≡ length values
    → length (filter (λ f. picks f.element) fields) ≡ length (map (λ p. p.1) (filter (λ p. picks p.0.element) (zip fields values)))
picked picks [] [] long = refl
picked picks [] (v ∷ vs) long = absurd (omega arith)
picked picks (f ∷ fs) [] long = absurd (omega arith)
picked picks (f ∷ fs) (v ∷ vs) long =
    let rest = picked picks fs vs (omega arith) in
    elim (picks f.element) as (λ b. length (cond b (f ∷ filter (λ g. picks g.element) fs) (filter (λ g. picks g.element) fs))
    ≡ length (map {A = FieldSpec × List ℕ} (λ q. q.1) (cond b ((f, v) ∷ filter {X = FieldSpec × List ℕ} (λ q. picks q.0.element) (zip fs vs)) (filter (λ q. picks q.0.element) (zip fs vs))))) [
      | true ↦ ap (λ n. suc n) rest
      | false ↦ rest
    ]

pub counted : (side : Side) (r : DataRecord) (fields : List FieldSpec) (count : ℕ) → IsSound r → fields ≡ r.template.fields → count ≡ length (filter (λ f. is_of side f.element) fields)
    → count ≡ length (values_of (is_of side) r)
counted side r fields count sound read is =
    is ∙ ap (λ fs. length (filter {X = FieldSpec} (λ f. is_of side f.element) fs)) read ∙ picked (is_of side) r.template.fields r.values (fit_fields-length r.template.fields r.values sound.fit)

-- ---- a prefix of either family, as it was read

pub narrow_read : (denies : Bool) (prefix : Prefix) (net : Net) (count bits a : ℕ) (values shown : List (List ℕ)) (narrow wide numbers : List ℕ) (answer : Bool) → AreSortedNumbers values count narrow wide
    → values ≡ shown → prefix ≡ V4 net → numbers ≡ narrow → bits ≡ net.length → a ≡ net.address → answer ≡ are_in denies count 32 bits a numbers → answer ≡ are_inside denies shown prefix
narrow_read denies prefix net count bits a values shown narrow wide numbers answer are same is read eb ea made =
    made ∙ ap (are_in denies count 32 bits a) read ∙ ap (λ n. are_in denies count 32 n a narrow) eb ∙ ap (λ n. are_in denies count 32 net.length n narrow) ea
    ∙ narrow_in denies net count values narrow wide are ∙ ap (λ vs. are_inside denies vs (V4 net)) same ∙ ap (are_inside denies shown) (sym is)

pub wide_read : (denies : Bool) (prefix : Prefix) (net : Net) (count bits a : ℕ) (values shown : List (List ℕ)) (narrow wide numbers : List ℕ) (answer : Bool) → AreSortedNumbers values count narrow wide
    → values ≡ shown → prefix ≡ V6 net → numbers ≡ wide → bits ≡ net.length → a ≡ net.address → answer ≡ are_in denies count 128 bits a numbers → answer ≡ are_inside denies shown prefix
wide_read denies prefix net count bits a values shown narrow wide numbers answer are same is read eb ea made =
    made ∙ ap (are_in denies count 128 bits a) read ∙ ap (λ n. are_in denies count 128 n a wide) eb ∙ ap (λ n. are_in denies count 128 net.length n wide) ea
    ∙ wide_in denies net count values narrow wide are ∙ ap (λ vs. are_inside denies vs (V6 net)) same ∙ ap (are_inside denies shown) (sym is)
