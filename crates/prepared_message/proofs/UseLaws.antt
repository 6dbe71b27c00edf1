-- The templates that a message used, and the templates that are in force.
use Rattle.std.proofs.Common.{◌≡◌, ℕ, zero, suc, ◌+◌, ◌<◌, ◌≤◌, Bool, true, false, cond, eqb, List, [], ◌∷◌, ◌++◌, length, take, drop, get_or, map, Option, Some, None, Result, Ok, refl, sym, ap, ◌∙◌, subst, append_assoc, append-nil, arith}
use Rattle.std.specs.declared.cmp.Ordering.{Ordering}
use Rattle.std.specs.declared.cmp.Ordering.TheVariants.{Less, Equal, Greater}
use Rattle.std.specs.Ordering.{nat_cmp, is_eq}
use Rattle.std.specs.Cmp.{nat_cmp_is}
use Rattle.std.specs.BTreeMap.{is_at}
use Rattle.std.specs.Prelude.{◌↔◌, IsTrue}
use Rattle.std.specs.Borrow.{Bor}
use Rattle.std.specs.Option.{option_copied}
use Rattle.std.specs.List.{AllByRecursion}
use Rattle.std.proofs.lemmas.Bool.{eqb-true, eq-eqb, ne_eqb}
use Rattle.std.proofs.lemmas.Map.Lookups.{exact_unsigned}
use Rattle.std.proofs.lemmas.List.{map-append, take_more, drop_all}
use Rattle.sequences.proofs.ListLaws.{AllByRecursion-append, drop_read}
use Rattle.ipfix_template.specs.declared.template.Template.{Template}
use Rattle.ipfix_template.specs.Equality.{same_template}
use Rattle.ipfix_template.specs.SameTemplate.{same_template-is, same_template-itself}
use Rattle.ipfix_message.specs.declared.item.Item.{Item}
use Rattle.ipfix_message.specs.declared.item.Item.TheVariants.{Define, Withdraw, WithdrawAll, Refused, DataSet, Skipped}
use Rattle.ipfix_session.specs.InForce.{template_in_force}
use Rattle.ipfix_session.specs.Keeping.{at_key, Keeps}
use Rattle.ipfix_session.specs.Unchanging.{AgreesOn, AgreeOn}
use Rattle.prepared_message.specs.declared.used.Used.{Used}
use Rattle.prepared_message.specs.Uses.{data_set_of, is_again, used_by}
use Rattle.prepared_message.specs.Seen.{used_pair}

-- an ID has this template, or none
abbrev pub Has : (ℕ → Option Template) → ℕ × Option Template → Type 0
Has g used = g used.0 ≡ used.1

-- ---- what is put, item by item

some_is : (a b : ℕ) → Some a ≡ Some b → a ≡ b
some_is a b e = cc

pub put_new : (found : ℕ → Option Template) (before : Option ℕ) (item : Item) (id : ℕ) (xs : List Used) (x : Used) (items : List Item)
    → data_set_of item ≡ Some id → is_again before id ≡ false → used_pair x ≡ (id, found id)
    → map used_pair (xs ++ x ∷ []) ++ used_by found (Some id) items ≡ map used_pair xs ++ used_by found before (item ∷ items)
unfolding used_by
put_new found before (DataSet other start len) id xs x items is fresh shown =
    ap (λ (us : List (ℕ × Option Template)). us ++ used_by found (Some id) items) (map-append used_pair xs (x ∷ []))
    ∙ append_assoc (map used_pair xs) (map used_pair (x ∷ [])) (used_by found (Some id) items)
    ∙ ap (λ (u : ℕ × Option Template). map used_pair xs ++ u ∷ used_by found (Some id) items) shown
    ∙ ap (λ (b : Bool). map used_pair xs ++ cond b (used_by found before items) ((id, found id) ∷ used_by found (Some id) items)) (sym fresh)
    ∙ ap (λ (n : ℕ). map used_pair xs ++ used_by found before (DataSet n start len ∷ items)) (sym (some_is other id is))
put_new found before (Define other t) id xs x items is fresh shown = absurd cc
put_new found before (Withdraw other) id xs x items is fresh shown = absurd cc
put_new found before (WithdrawAll options) id xs x items is fresh shown = absurd cc
put_new found before (Refused other why) id xs x items is fresh shown = absurd cc
put_new found before (Skipped set) id xs x items is fresh shown = absurd cc

pub put_again : (found : ℕ → Option Template) (before : Option ℕ) (item : Item) (id : ℕ) (us : List (ℕ × Option Template)) (items : List Item)
    → data_set_of item ≡ Some id → is_again before id ≡ true → us ++ used_by found before items ≡ us ++ used_by found before (item ∷ items)
unfolding used_by
put_again found before (DataSet other start len) id us items is again =
    ap (λ (b : Bool). us ++ cond b (used_by found before items) ((id, found id) ∷ used_by found (Some id) items)) (sym again)
    ∙ ap (λ (n : ℕ). us ++ used_by found before (DataSet n start len ∷ items)) (sym (some_is other id is))
put_again found before (Define other t) id us items is again = refl
put_again found before (Withdraw other) id us items is again = refl
put_again found before (WithdrawAll options) id us items is again = refl
put_again found before (Refused other why) id us items is again = refl
put_again found before (Skipped set) id us items is again = refl

pub put_other : (found : ℕ → Option Template) (before : Option ℕ) (item : Item) (us : List (ℕ × Option Template)) (items : List Item)
    → data_set_of item ≡ None → us ++ used_by found before items ≡ us ++ used_by found before (item ∷ items)
unfolding used_by
put_other found before (DataSet other start len) us items is = absurd cc
put_other found before (Define other t) us items is = refl
put_other found before (Withdraw other) us items is = refl
put_other found before (WithdrawAll options) us items is = refl
put_other found before (Refused other why) us items is = refl
put_other found before (Skipped set) us items is = refl

-- ---- which templates were used, and on which items the tables agree

-- the Data Set before, if there is one, has the same template by both
abbrev AgreesBefore : (ℕ → Option Template) → (ℕ → Option Template) → Option ℕ → Type 0
AgreesBefore g found None = Unit {0}
AgreesBefore g found (Some id) = g id ≡ found id

again_agrees : (g found : ℕ → Option Template) (before : Option ℕ) (id : ℕ) → is_again before id ≡ true → AgreesBefore g found before → g id ≡ found id
again_agrees g found None id again h = absurd cc
again_agrees g found (Some last) id again h = subst (λ (n : ℕ). g n ≡ found n) (eqb-true last id again) h

pub agree_from : (g found : ℕ → Option Template) (before : Option ℕ) (said : List Item) → AgreesBefore g found before → AllByRecursion (Has g) (used_by found before said) → AgreeOn g found said
unfolding used_by
agree_from g found before [] h all = tt
agree_from g found before (Define id t ∷ items) h all = (tt, agree_from g found before items h all)
agree_from g found before (Withdraw id ∷ items) h all = (tt, agree_from g found before items h all)
agree_from g found before (WithdrawAll options ∷ items) h all = (tt, agree_from g found before items h all)
agree_from g found before (Refused id why ∷ items) h all = (tt, agree_from g found before items h all)
agree_from g found before (Skipped set ∷ items) h all = (tt, agree_from g found before items h all)
agree_from g found before (DataSet id start len ∷ items) h all =
    by_test (agree_from g found before items h) (agree_from g found (Some id) items) (is_again before id) refl all
  where
    by_test : (AllByRecursion (Has g) (used_by found before items) → AgreeOn g found items)
        → (g id ≡ found id → AllByRecursion (Has g) (used_by found (Some id) items) → AgreeOn g found items)
        → (again : Bool) → is_again before id ≡ again
        → AllByRecursion (Has g) (cond again (used_by found before items) ((id, found id) ∷ used_by found (Some id) items)) → AgreeOn g found (DataSet id start len ∷ items)
    by_test kept fresh true is all = (again_agrees g found before id is h, kept all)
    by_test kept fresh false is all = (all.0, fresh all.0 all.1)

pub agree_to : (g found : ℕ → Option Template) (before : Option ℕ) (said : List Item) → AgreeOn g found said → AllByRecursion (Has g) (used_by found before said)
unfolding used_by
agree_to g found before [] agree = tt
agree_to g found before (Define id t ∷ items) agree = agree_to g found before items agree.1
agree_to g found before (Withdraw id ∷ items) agree = agree_to g found before items agree.1
agree_to g found before (WithdrawAll options ∷ items) agree = agree_to g found before items agree.1
agree_to g found before (Refused id why ∷ items) agree = agree_to g found before items agree.1
agree_to g found before (Skipped set ∷ items) agree = agree_to g found before items agree.1
agree_to g found before (DataSet id start len ∷ items) agree =
    by_test (agree_to g found before items agree.1) (agree_to g found (Some id) items agree.1) (is_again before id)
  where
    by_test : AllByRecursion (Has g) (used_by found before items) → AllByRecursion (Has g) (used_by found (Some id) items)
        → (again : Bool) → AllByRecursion (Has g) (cond again (used_by found before items) ((id, found id) ∷ used_by found (Some id) items))
    by_test kept fresh true = kept
    by_test kept fresh false = (agree.0, fresh)

-- ---- the list of those that were used

pub holds_there : (P : ℕ × Option Template → Type 0) (uses : List Used) (i : ℕ) (x : Used) → i < length uses → x ≡ get_or uses i x → AllByRecursion P (map used_pair uses) → P (used_pair x)
holds_there P [] i x low is all = absurd (omega (arith, low))
holds_there P (u ∷ us) zero x low is all = subst (λ (y : Used). P (used_pair y)) (sym is) all.0
holds_there P (u ∷ us) (suc i) x low is all = holds_there P us i x (omega (arith, low)) is all.1

-- one more
pub all_more : (P : ℕ × Option Template → Type 0) (uses : List Used) (i : ℕ) (x : Used) → i < length uses → x ≡ get_or uses i x → AllByRecursion P (map used_pair (take i uses)) → P (used_pair x) → AllByRecursion P (map used_pair (take (i + 1) uses))
all_more P uses i x low is all this =
    subst (λ (us : List (ℕ × Option Template)). AllByRecursion P us) (sym more) (AllByRecursion-append P (map used_pair (take i uses)) (used_pair x ∷ []) all (this, tt))
  where
    more : map used_pair (take (i + 1) uses) ≡ map used_pair (take i uses) ++ used_pair x ∷ []
    more = ap (map used_pair) (take_more uses i x low ∙ ap (λ (y : Used). take i uses ++ y ∷ []) (sym is)) ∙ map-append used_pair (take i uses) (x ∷ [])

-- what is used by one more item
pub used_more : (found : ℕ → Option Template) (said : List Item) (i : ℕ) (item : Item) (before next : Option ℕ) (us vs : List (ℕ × Option Template)) (whole : List (ℕ × Option Template))
    → i < length said → item ≡ get_or said i item → ((items : List Item) → vs ++ used_by found next items ≡ us ++ used_by found before (item ∷ items))
    → us ++ used_by found before (drop i said) ≡ whole → vs ++ used_by found next (drop (i + 1) said) ≡ whole
used_more found said i item before next us vs whole low is puts e =
    puts (drop (i + 1) said) ∙ ap (λ (items : List Item). us ++ used_by found before items) (sym (drop_read said i item low is)) ∙ e

-- what is used by all of them
pub used_all : (found : ℕ → Option Template) (said : List Item) (i : ℕ) (before : Option ℕ) (us whole : List (ℕ × Option Template)) → length said ≤ i → us ++ used_by found before (drop i said) ≡ whole → us ≡ whole
unfolding used_by
used_all found said i before us whole end e = sym (append-nil us) ∙ ap (λ (items : List Item). us ++ used_by found before items) (sym (drop_all i said end)) ∙ e

-- nothing is used before the first item
pub used_none : (found : ℕ → Option Template) (said : List Item) → [] ++ used_by found None (drop 0 said) ≡ used_by found None said
used_none found said = refl

-- ---- templates that are known, as items

-- the items that define the templates of a table
abbrev pub defined : List (ℕ × Template) → List Item
defined [] = []
defined ((id, t) ∷ known) = Define id t ∷ defined known

equal_where : (o : Ordering) → is_eq o ≡ true → o ≡ Equal
equal_where Less is = absurd cc
equal_where Equal is = refl
equal_where Greater is = absurd cc

-- a look-up stops at the same numbers
at_is : (a b : ℕ) → is_at (nat_cmp a) b ≡ eqb a b
at_is a b = by (is_at (nat_cmp a) b) refl where
  by : (here : Bool) → is_at (nat_cmp a) b ≡ here → here ≡ eqb a b
  by true is = sym (eq-eqb a b (exact_unsigned a b (equal_where (nat_cmp a b) is)))
  by false is = sym (ne_eqb a b (λ same. differ same is)) where
    differ : a ≡ b → is_at (nat_cmp a) b ≡ false → ⊥
    differ same off = let on : is_at (nat_cmp a) b ≡ true = ap (is_at (nat_cmp a)) (sym same) ∙ ap is_eq (sym (nat_cmp_is a a Equal refl)) in absurd cc

-- the items that define them leave them in force
pub defined_keeps : (known : List (ℕ × Template)) → Keeps known (defined known)
unfolding template_in_force
defined_keeps [] id = refl
defined_keeps ((other, t) ∷ known) id =
    ap (λ (b : Bool). cond b (Some t) (at_key id known)) (at_is id other) ∙ ap (λ (o : Option Template). cond (eqb id other) (Some t) o) (defined_keeps known id)

-- tables that have the same templates agree on the same items
pub agree_by : (g found other : ℕ → Option Template) (said : List Item) → ((id : ℕ) → found id ≡ other id) → AgreeOn g found said → AgreeOn g other said
agree_by g found other [] same agree = tt
agree_by g found other (DataSet id start len ∷ items) same agree = (agree.0 ∙ same id, agree_by g found other items same agree.1)
agree_by g found other (Define id t ∷ items) same agree = (tt, agree_by g found other items same agree.1)
agree_by g found other (Withdraw id ∷ items) same agree = (tt, agree_by g found other items same agree.1)
agree_by g found other (WithdrawAll options ∷ items) same agree = (tt, agree_by g found other items same agree.1)
agree_by g found other (Refused id why ∷ items) same agree = (tt, agree_by g found other items same agree.1)
agree_by g found other (Skipped set ∷ items) same agree = (tt, agree_by g found other items same agree.1)

-- ---- templates that are compared

-- two templates that are there are the same exactly where the test says so
pub same_template_is : (kept used : Option (Bor Template)) (k u : Bor Template) (same : Bool) → kept ≡ Some k → used ≡ Some u → same ≡ same_template k.now u.now
    → IsTrue same ↔ (option_copied kept ≡ option_copied used)
same_template_is kept used k u same kept_is used_is is =
    rw (kept_is, used_is) (
      λ yes_same. ap (λ (t : Template). Some t) (same_template-is k.now u.now (sym is ∙ yes_same)),
      λ e. is ∙ ap (same_template k.now) (sym (some_is e)) ∙ same_template-itself k.now,
    )
  where
    some_is : Some k.now ≡ Some u.now → k.now ≡ u.now
    some_is e = cc
