-- Names and numbers stay tied where a subscription comes or goes.
use Rattle.std.proofs.Common.{◌≡◌, ◌≢◌, ℕ, Bool, true, false, cond, eqb, List, Option, Some, None, refl, sym, ap, ◌∙◌, subst}
use Rattle.std.specs.Map.{update}
use Rattle.std.specs.Str.{bytes_eq}
use Rattle.std.proofs.lemmas.Bool.{eqb-true, eqb-false, eq-eqb, ne_eqb}
use Rattle.std.proofs.lemmas.Slice.Eq.{bytes_eq-Decides}
use Rattle.std.proofs.lemmas.Option.{none-some, same_Some}
use Rattle.std.specs.Prelude.{IsSome, IfSome, IfNone, IsSomeAnd}
use Rattle.std.specs.Ordering.{nat_cmp}
use Rattle.std.specs.Cmp.{unsigned_tied}
use Rattle.std.specs.BTreeMap.{BTreeMap, WritesThrough, is_at}
use Rattle.std.specs.Option.{option_map}
use Rattle.ipfix_template.specs.DataRecord.{DataRecord}
use Rattle.ipfix_session.specs.Keeping.{at_key}
use Rattle.mediator_tables.specs.declared.subscription.Subscription.{Subscription}
use Rattle.mediator_tables.specs.SubscriptionTable.{SeenSubscription, seen_subscription, SameLive, Related, TakesGiven, HasName}
use Rattle.mediator_tables.specs.Naming.{AreNamed, name_of_sub}

-- the same names
pub named_same : (numbers numbers2 : List ℕ → Option ℕ) (names names2 : ℕ → Option (List ℕ)) → ((n : List ℕ) → numbers2 n ≡ numbers n) → ((q : ℕ) → names2 q ≡ names q)
    → AreNamed numbers names → AreNamed numbers2 names2
named_same numbers numbers2 names names2 same_numbers same_names so = record {
  each = λ sub name is. same_numbers name ∙ so.each sub name (sym (same_names sub) ∙ is);
  only = λ sub name is. same_names sub ∙ so.only sub name (sym (same_numbers name) ∙ is);
}

other_name : (name n : List ℕ) → (name ≡ n → ⊥) → bytes_eq name n ≡ false
other_name name n apart = by (bytes_eq name n) refl
  where
    by : (b : Bool) → bytes_eq name n ≡ b → bytes_eq name n ≡ false
    by true is = absurd (apart ((bytes_eq-Decides name n).0 is))
    by false is = is

-- one name more
pub named_more : (numbers numbers2 : List ℕ → Option ℕ) (names names2 : ℕ → Option (List ℕ)) (sub : ℕ) (name : List ℕ) → names sub ≡ None → ((q : ℕ) → names q ≡ Some name → ⊥)
    → ((n : List ℕ) → numbers2 n ≡ update bytes_eq numbers name (Some sub) n) → ((q : ℕ) → names2 q ≡ cond (eqb q sub) (Some name) (names q))
    → AreNamed numbers names → AreNamed numbers2 names2
named_more numbers numbers2 names names2 sub name new free n2 s2 so = record {
  each = λ q n is. each_by q n (eqb q sub) refl is;
  only = λ q n is. only_by q n (bytes_eq name n) refl is;
}
  where
    each_by : (q : ℕ) (n : List ℕ) (b : Bool) → eqb q sub ≡ b → names2 q ≡ Some n → numbers2 n ≡ Some q
    each_by q n true e is =
        let same : name ≡ n = same_Some name n (sym (s2 q ∙ ap (λ b. cond b (Some name) (names q)) e) ∙ is) in
        n2 n ∙ ap (λ b. cond b (Some sub) (numbers n)) ((bytes_eq-Decides name n).1 same) ∙ ap (λ (k : ℕ). Some k) (sym (eqb-true q sub e))
    each_by q n false e is =
        let was : names q ≡ Some n = sym (s2 q ∙ ap (λ b. cond b (Some name) (names q)) e) ∙ is in
        let apart : name ≡ n → ⊥ = λ same. free q (was ∙ ap (λ (m : List ℕ). Some m) (sym same)) in
        n2 n ∙ ap (λ b. cond b (Some sub) (numbers n)) (other_name name n apart) ∙ so.each q n was

    only_by : (q : ℕ) (n : List ℕ) (b : Bool) → bytes_eq name n ≡ b → numbers2 n ≡ Some q → names2 q ≡ Some n
    only_by q n true e is =
        let same : sub ≡ q = same_Some sub q (sym (n2 n ∙ ap (λ b. cond b (Some sub) (numbers n)) e) ∙ is) in
        s2 q ∙ ap (λ b. cond b (Some name) (names q)) (eq-eqb q sub (sym same)) ∙ ap (λ (m : List ℕ). Some m) ((bytes_eq-Decides name n).0 e)
    only_by q n false e is = kept q n (so.only q n (sym (n2 n ∙ ap (λ b. cond b (Some sub) (numbers n)) e) ∙ is)) (eqb q sub) refl
      where
        kept : (q : ℕ) (n : List ℕ) → names q ≡ Some n → (b : Bool) → eqb q sub ≡ b → names2 q ≡ Some n
        kept q n was true e = absurd (none-some n (sym (ap names (eqb-true q sub e) ∙ new) ∙ was))
        kept q n was false e = s2 q ∙ ap (λ b. cond b (Some name) (names q)) e ∙ was

true_and_false : (b : Bool) → b ≡ true → b ≡ false → ⊥
true_and_false b t f = let e : true ≡ false = sym t ∙ f in cc

-- one name less
pub named_less : (numbers numbers2 : List ℕ → Option ℕ) (names names2 : ℕ → Option (List ℕ)) (sub : ℕ) (name : List ℕ) → names sub ≡ Some name
    → ((n : List ℕ) → numbers2 n ≡ update bytes_eq numbers name None n) → ((q : ℕ) → names2 q ≡ cond (eqb q sub) None (names q))
    → AreNamed numbers names → AreNamed numbers2 names2
named_less numbers numbers2 names names2 sub name was n2 s2 so = record {
  each = λ q n is. each_by q n (eqb q sub) refl is;
  only = λ q n is. only_by q n (bytes_eq name n) refl is;
}
  where
    each_by : (q : ℕ) (n : List ℕ) (b : Bool) → eqb q sub ≡ b → names2 q ≡ Some n → numbers2 n ≡ Some q
    each_by q n true e is = absurd (none-some n (sym (s2 q ∙ ap (λ b. cond b None (names q)) e) ∙ is))
    each_by q n false e is =
        let had : numbers n ≡ Some q = so.each q n (sym (s2 q ∙ ap (λ b. cond b None (names q)) e) ∙ is) in
        let apart : name ≡ n → ⊥ = λ same. eqb-false q sub e (same_Some q sub (sym had ∙ ap numbers (sym same) ∙ so.each sub name was)) in
        n2 n ∙ ap (λ b. cond b None (numbers n)) (other_name name n apart) ∙ had

    only_by : (q : ℕ) (n : List ℕ) (b : Bool) → bytes_eq name n ≡ b → numbers2 n ≡ Some q → names2 q ≡ Some n
    only_by q n true e is = absurd (none-some q (sym (n2 n ∙ ap (λ b. cond b None (numbers n)) e) ∙ is))
    only_by q n false e is = kept q n (so.only q n (sym (n2 n ∙ ap (λ b. cond b None (numbers n)) e) ∙ is)) e (eqb q sub) refl
      where
        kept : (q : ℕ) (n : List ℕ) → names q ≡ Some n → bytes_eq name n ≡ false → (b : Bool) → eqb q sub ≡ b → names2 q ≡ Some n
        kept q n has other true e = absurd (true_and_false (bytes_eq name n) ((bytes_eq-Decides name n).1 (same_Some name n (sym was ∙ ap names (sym (eqb-true q sub e)) ∙ has))) other)
        kept q n has other false e = s2 q ∙ ap (λ b. cond b None (names q)) e ∙ has

-- ---- the names of live subscriptions

-- its name, where there is one
abbrev pub name_in : Option Subscription → Option (List ℕ)
name_in o = option_map (λ s. s.name) o

name_seen : (o : Option Subscription) → option_map (λ (v : SeenSubscription). v.name) (option_map seen_subscription o) ≡ name_in o
name_seen None = refl
name_seen (Some s) = refl

pub names_seen : (es es2 : List (ℕ × Subscription)) → SameLive es es2 → (q : ℕ) → name_of_sub es2 q ≡ name_of_sub es q
names_seen es es2 same q = sym (name_seen (at_key q es2)) ∙ ap (option_map (λ (v : SeenSubscription). v.name)) (same q) ∙ name_seen (at_key q es)

pub name_given : (more : List DataRecord) (o p : Option Subscription) → Related (TakesGiven more) o p → name_in p ≡ name_in o
name_given more None None gives = refl
name_given more None (Some t) gives = absurd gives
name_given more (Some s) None gives = absurd gives
name_given more (Some s) (Some t) gives = ap (λ (n : List ℕ). Some n) gives.name

name_put : (here : Bool) (s : Subscription) (o : Option Subscription) → name_in (cond here (Some s) o) ≡ cond here (Some s.name) (name_in o)
name_put true s o = refl
name_put false s o = refl

pub names_more : (es es2 : List (ℕ × Subscription)) (sub : ℕ) (s : Subscription) → ((q : ℕ) → at_key q es2 ≡ cond (eqb q sub) (Some s) (at_key q es))
    → (q : ℕ) → name_of_sub es2 q ≡ cond (eqb q sub) (Some s.name) (name_of_sub es q)
names_more es es2 sub s puts q = ap name_in (puts q) ∙ name_put (eqb q sub) s (at_key q es)

name_out : (here : Bool) (o : Option Subscription) → name_in (cond here None o) ≡ cond here None (name_in o)
name_out true o = refl
name_out false o = refl

turned : (a b : ℕ) → eqb a b ≡ eqb b a
turned a b = by (eqb a b) refl
  where
    by : (here : Bool) → eqb a b ≡ here → here ≡ eqb b a
    by true is = sym (eq-eqb b a (sym (eqb-true a b is)))
    by false is = sym (ne_eqb b a (λ same. eqb-false a b is (sym same)))

-- a look-up stops at the same number
at_is : (sub q : ℕ) → is_at (nat_cmp sub) q ≡ eqb q sub
at_is sub q =
    let tied : is_at (nat_cmp sub) q ≡ eqb sub q = unsigned_tied sub q in
    tied ∙ turned sub q

pub names_less : (es es2 : List (ℕ × Subscription)) (sub : ℕ) → ((q : ℕ) → at_key q es2 ≡ cond (is_at (nat_cmp sub) q) None (at_key q es)) → (q : ℕ) → name_of_sub es2 q ≡ cond (eqb q sub) None (name_of_sub es q)
names_less es es2 sub takes q = ap name_in (takes q) ∙ name_out (is_at (nat_cmp sub) q) (at_key q es) ∙ ap (λ (here : Bool). cond here None (name_of_sub es q)) (at_is sub q)

names_written : (es es2 : List (ℕ × Subscription)) (sub : ℕ) (s t : Subscription) → Some s ≡ at_key sub es → t.name ≡ s.name → ((q : ℕ) → at_key q es2 ≡ cond (is_at (nat_cmp sub) q) (Some t) (at_key q es))
    → (q : ℕ) → name_of_sub es2 q ≡ name_of_sub es q
names_written es es2 sub s t there same written q = ap name_in (written q) ∙ by (is_at (nat_cmp sub) q) refl
  where
    by : (here : Bool) → is_at (nat_cmp sub) q ≡ here → name_in (cond here (Some t) (at_key q es)) ≡ name_of_sub es q
    by true is =
        let one : q ≡ sub = eqb-true q sub (sym (at_is sub q) ∙ is) in
        ap (λ (n : List ℕ). Some n) same ∙ ap name_in there ∙ ap (λ (k : ℕ). name_of_sub es k) (sym one)
    by false is = refl

-- the names stay tied where one is written over by one of the same name
pub named_written : (numbers : List ℕ → Option ℕ) (m n : BTreeMap ℕ Subscription) (sub : ℕ) (s t : Subscription) → Some s ≡ at_key sub m.entries → t.name ≡ s.name → WritesThrough nat_cmp (nat_cmp sub) m t n
    → AreNamed numbers (name_of_sub m.entries) → AreNamed numbers (name_of_sub n.entries)
named_written numbers m n sub s t there same written so =
    let found : IsSome (at_key sub m.entries) = subst (λ (o : Option Subscription). IsSome o) there refl in
    named_same numbers numbers (name_of_sub m.entries) (name_of_sub n.entries) (λ k. refl) (names_written m.entries n.entries sub s t there same (written.3 found).0) so

-- so they do where nothing was lent
pub named_unwritten : (numbers : List ℕ → Option ℕ) (m n : BTreeMap ℕ Subscription) → n ≡ m → AreNamed numbers (name_of_sub m.entries) → AreNamed numbers (name_of_sub n.entries)
named_unwritten numbers m n same so = subst (λ (k : BTreeMap ℕ Subscription). AreNamed numbers (name_of_sub k.entries)) (sym same) so

pub name_free : (name : List ℕ) (o : Option Subscription) → IfSome o (λ s. s.name ≢ name) → name_in o ≡ Some name → ⊥
name_free name None free is = none-some name is
name_free name (Some s) free is = free (same_Some s.name name is)

-- ---- looking a name up

has_name : (name : List ℕ) (o : Option Subscription) → name_in o ≡ Some name → IsSomeAnd o (HasName name)
has_name name None is = none-some name is
has_name name (Some s) is = same_Some s.name name is

pub named_found : (numbers : List ℕ → Option ℕ) (es : List (ℕ × Subscription)) (name : List ℕ) (found : Option ℕ) → found ≡ numbers name → AreNamed numbers (name_of_sub es)
    → IfSome found (λ sub. IsSomeAnd (at_key sub es) (HasName name))
named_found numbers es name None is so = tt
named_found numbers es name (Some sub) is so = has_name name (at_key sub es) (so.only sub name (sym is))

other_named : (name : List ℕ) (o : Option Subscription) → (name_in o ≡ Some name → ⊥) → IfSome o (λ s. s.name ≢ name)
other_named name None apart = tt
other_named name (Some s) apart = λ same. apart (ap (λ (n : List ℕ). Some n) same)

pub named_none : (numbers : List ℕ → Option ℕ) (es : List (ℕ × Subscription)) (name : List ℕ) (found : Option ℕ) → found ≡ numbers name → AreNamed numbers (name_of_sub es)
    → IfNone found ((sub : ℕ) → IfSome (at_key sub es) (λ s. s.name ≢ name))
named_none numbers es name None is so = λ sub. other_named name (at_key sub es) (λ has. none-some sub (is ∙ so.each sub name has))
named_none numbers es name (Some sub) is so = tt
