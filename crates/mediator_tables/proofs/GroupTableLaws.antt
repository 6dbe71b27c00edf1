-- The table after what is held of one subscription, or of each, was written.
use Rattle.std.proofs.Common.{◌≡◌, ◌≢◌, ◌≤◌, ◌+◌, ◌<◌, ℕ, zero, suc, Bool, true, false, cond, eqb, ltb, List, [], ◌∷◌, ◌++◌, map, length, get_or, position, slice_get, Result, Ok, Err, IfOk, Option, Some, None, refl, sym, ap, ◌∙◌, subst, append_assoc, append-nil, is_some, true≢false, arith, length-append}
use Rattle.std.specs.Prelude.{unwrap_or, nat_lt}
use Rattle.std.specs.List.{AllByRecursion, IsDistinct}
use Rattle.std.specs.Map.{lookup, keys_of, values_of, set_value}
use Rattle.std.specs.Map.Calls.{RetainsPairs}
use Rattle.std.proofs.lemmas.Bool.{eqb-true, eqb-false, eq-eqb, ne_eqb, ltb-false}
use Rattle.std.proofs.lemmas.List.{map_push}
use Rattle.std.proofs.lemmas.List.Quantifiers.{position-Some}
use Rattle.std.proofs.lemmas.Option.{slice_get-get_or}
use Rattle.indexmap.specs.IndexMap.{set_value_at}
use Rattle.ipfix_template.specs.DataRecord.{DataRecord}
use Rattle.flow_aggregate.specs.declared.addition.Addition.{Addition}
use Rattle.flow_aggregate.specs.declared.sums.Sums.{Sums}
use Rattle.flow_aggregate.specs.Groups.{Group, Sample, group_of}
use Rattle.flow_aggregate.specs.GroupOrder.{same_group, same_group-itself}
use Rattle.flow_aggregate.specs.Running.{Entries, HeldGroups, nothing_held, group_places, SumsStand, sums_over, of_group}
use Rattle.flow_aggregate.specs.Counts.{count_of}
use Rattle.flow_aggregate.specs.Additions.{AreReadyToAdd}
use Rattle.flow_aggregate.specs.Closing.{closed_by}
use Rattle.mediator_tables.specs.declared.ids.SubId.{SubId}
use Rattle.mediator_tables.specs.GroupTable.{held_at, groups_at, IsHeldAt, holds_groups}

abbrev pub Table : Type 0
Table = List (ℕ × HeldGroups)

-- ---- the numbers, one after another

-- one more of the numbers, and one less that is left
pub numbers_more : (subs subs2 : List SubId) (left left2 ks : List ℕ) (n : ℕ) (s : SubId) → subs2 ≡ subs ++ s ∷ [] → left ≡ n ∷ left2 → s.0 ≡ n → map (λ s. s.0) subs ++ left ≡ ks → map (λ s. s.0) subs2 ++ left2 ≡ ks
numbers_more subs subs2 left left2 ks n s pushed next is so =
    ap (λ (l : List SubId). map (λ s. s.0) l ++ left2) pushed
    ∙ ap (λ (l : List ℕ). l ++ left2) (map_push (λ (s : SubId). s.0) subs s)
    ∙ append_assoc (map (λ s. s.0) subs) (s.0 ∷ []) left2
    ∙ ap (λ (k : ℕ). map (λ s. s.0) subs ++ k ∷ left2) is
    ∙ ap (λ (l : List ℕ). map (λ s. s.0) subs ++ l) (sym next)
    ∙ so

-- ---- of the subscription at a place

one_of : (x y : ℕ) → Some x ≡ Some y → x ≡ y
one_of x y is = cc

all_at : (P : ℕ → Type 0) (ks : List ℕ) (i k : ℕ) → AllByRecursion P ks → slice_get ks i ≡ Some k → P k
all_at P [] i k all at = absurd cc
all_at P (h ∷ ks) zero k all at = subst P (one_of h k at) all.0
all_at P (h ∷ ks) (suc i) k all at = all_at P ks i k all.1 at

pub keys_written : (es : Table) (i : ℕ) (w : HeldGroups) → keys_of (set_value_at es i w) ≡ keys_of es
keys_written [] i w = refl
keys_written (e ∷ es) zero w = refl
keys_written (e ∷ es) (suc i) w = ap (λ (ks : List ℕ). e.0 ∷ ks) (keys_written es i w)

pub once_written : (es : Table) (i : ℕ) (w : HeldGroups) → IsDistinct eqb (keys_of es) → IsDistinct eqb (keys_of (set_value_at es i w))
once_written es i w once = subst (IsDistinct eqb) (sym (keys_written es i w)) once

-- what is written there is found there, and nothing else changes
look_written : (es : Table) (i sub q : ℕ) (w : HeldGroups) → IsDistinct eqb (keys_of es) → IsHeldAt es i sub
    → lookup (eqb q) (set_value_at es i w) ≡ cond (eqb q sub) (Some w) (lookup (eqb q) es)
unfolding IsDistinct
look_written [] i sub q w distinct at = absurd cc
look_written (e ∷ es) zero sub q w distinct at = let one = one_of e.0 sub at in rw (← one) (by (eqb q e.0)) where
  by : (b : Bool) → cond b (Some w) (lookup (eqb q) es) ≡ cond b (Some w) (cond b (Some e.1) (lookup (eqb q) es))
  by true = refl
  by false = refl
look_written (e ∷ es) (suc i) sub q w distinct at = by (eqb q e.0) refl (look_written es i sub q w distinct.1 at) where
  by : (b : Bool) → eqb q e.0 ≡ b → lookup (eqb q) (set_value_at es i w) ≡ cond (eqb q sub) (Some w) (lookup (eqb q) es)
      → cond b (Some e.1) (lookup (eqb q) (set_value_at es i w)) ≡ cond (eqb q sub) (Some w) (cond b (Some e.1) (lookup (eqb q) es))
  by true is rest =
      let other : eqb q sub ≡ false = ap (λ h. eqb h sub) (eqb-true q e.0 is) ∙ all_at (λ y. eqb e.0 y ≡ false) (keys_of es) i sub distinct.0 at in
      rw other refl
  by false is rest = rest

pub held_written : (es fs : Table) (i sub q : ℕ) (w : HeldGroups) → IsDistinct eqb (keys_of es) → IsHeldAt es i sub → fs ≡ set_value_at es i w → held_at fs q ≡ cond (eqb q sub) w (held_at es q)
held_written es fs i sub q w distinct at is =
    ap (λ (gs : Table). held_at gs q) is ∙ ap (λ (o : Option HeldGroups). unwrap_or o nothing_held) (look_written es i sub q w distinct at) ∙ by (eqb q sub) where
      by : (b : Bool) → unwrap_or (cond b (Some w) (lookup (eqb q) es)) nothing_held ≡ cond b w (held_at es q)
      by true = refl
      by false = refl

pub here_written : (es fs : Table) (i sub : ℕ) (w : HeldGroups) → IsDistinct eqb (keys_of es) → IsHeldAt es i sub → fs ≡ set_value_at es i w → held_at fs sub ≡ w
here_written es fs i sub w distinct at is = held_written es fs i sub sub w distinct at is ∙ ap (λ b. cond b w (held_at es sub)) (eq-eqb sub sub refl)

pub others_written : (es fs : Table) (i sub q : ℕ) (w : HeldGroups) → IsDistinct eqb (keys_of es) → IsHeldAt es i sub → fs ≡ set_value_at es i w → q ≢ sub → held_at fs q ≡ held_at es q
others_written es fs i sub q w distinct at is other = held_written es fs i sub q w distinct at is ∙ ap (λ b. cond b w (held_at es q)) (ne_eqb q sub other)

-- what is held of the subscription at a place
pub held_there : (es : Table) (i sub : ℕ) (v : HeldGroups) → IsDistinct eqb (keys_of es) → IsHeldAt es i sub → Some v ≡ slice_get (values_of es) i → held_at es sub ≡ v
unfolding IsDistinct
held_there [] i sub v distinct at there = absurd cc
held_there (e ∷ es) zero sub v distinct at there =
    ap (λ b. unwrap_or (cond b (Some e.1) (lookup (eqb sub) es)) nothing_held) (ap (eqb sub) (one_of e.0 sub at) ∙ eq-eqb sub sub refl) ∙ held_of v e.1 there where
      held_of : (a b : HeldGroups) → Some a ≡ Some b → b ≡ a
      held_of a b is = cc
held_there (e ∷ es) (suc i) sub v distinct at there =
    ap (λ b. unwrap_or (cond b (Some e.1) (lookup (eqb sub) es)) nothing_held)
    (ne_eqb sub e.0 (λ same. eqb-false e.0 sub (all_at (λ y. eqb e.0 y ≡ false) (keys_of es) i sub distinct.0 at) (sym same)))
    ∙ held_there es i sub v distinct.1 at there

-- where nothing stands at a place, no subscription does
pub nowhere : (es : Table) (i sub : ℕ) → None ≡ slice_get (values_of es) i → IsHeldAt es i sub → ⊥
nowhere [] i sub none at = absurd cc
nowhere (e ∷ es) zero sub none at = absurd cc
nowhere (e ∷ es) (suc i) sub none at = nowhere es i sub none at

-- what no place is for has nothing
pub held_none : (es : Table) (q : ℕ) → AllByRecursion (λ k. eqb q k ≡ false) (keys_of es) → held_at es q ≡ nothing_held
held_none [] q apart = refl
held_none (e ∷ es) q apart = ap (λ c. unwrap_or (cond c (Some e.1) (lookup (eqb q) es)) nothing_held) apart.0 ∙ held_none es q apart.1

-- ---- what is held where a number was looked up

pub held_found : (table es : Table) (sub : ℕ) (here : HeldGroups) → es ≡ table → Some here ≡ lookup (eqb sub) es → held_at table sub ≡ here
held_found table es sub here same there = ap (λ (gs : Table). held_at gs sub) (sym same) ∙ ap (λ (o : Option HeldGroups). unwrap_or o nothing_held) (sym there)

pub held_nowhere : (table es : Table) (sub : ℕ) → es ≡ table → None ≡ lookup (eqb sub) es → held_at table sub ≡ nothing_held
held_nowhere table es sub same none = ap (λ (gs : Table). held_at gs sub) (sym same) ∙ ap (λ (o : Option HeldGroups). unwrap_or o nothing_held) (sym none)

-- what is written where a number was found changes no other
set_elsewhere : (es : Table) (sub q : ℕ) (w : HeldGroups) → q ≢ sub → lookup (eqb q) (set_value (eqb sub) es w) ≡ lookup (eqb q) es
set_elsewhere [] sub q w other = refl
set_elsewhere (e ∷ es) sub q w other = by (eqb sub e.0) refl (set_elsewhere es sub q w other) where
  by : (b : Bool) → eqb sub e.0 ≡ b → lookup (eqb q) (set_value (eqb sub) es w) ≡ lookup (eqb q) es
      → lookup (eqb q) (cond b ((e.0, w) ∷ es) (e ∷ set_value (eqb sub) es w)) ≡ cond (eqb q e.0) (Some e.1) (lookup (eqb q) es)
  by true is rest =
      let apart : eqb q e.0 ≡ false = ap (eqb q) (sym (eqb-true sub e.0 is)) ∙ ne_eqb q sub other in
      rw apart refl
  by false is rest = ap (λ (o : Option HeldGroups). cond (eqb q e.0) (Some e.1) o) rest

pub held_elsewhere : (table es fs : Table) (sub q : ℕ) (w : HeldGroups) → es ≡ table → fs ≡ set_value (eqb sub) es w → q ≢ sub → held_at fs q ≡ held_at table q
held_elsewhere table es fs sub q w same is other =
    ap (λ (gs : Table). held_at gs q) is ∙ ap (λ (o : Option HeldGroups). unwrap_or o nothing_held) (set_elsewhere es sub q w other) ∙ ap (λ (gs : Table). held_at gs q) same

-- ---- a subscription that is put behind the others

pub not_found : (o : Option HeldGroups) → is_some o ≡ false → o ≡ None
not_found None is = refl
not_found (Some h) is = absurd (true≢false is)

pub placed_found : (table es : Table) (sub i : ℕ) → es ≡ table → position (eqb sub) (keys_of es) ≡ Some i → IsHeldAt table i sub
placed_found table es sub i same is =
    let p = position-Some (eqb sub) (keys_of es) i sub is in
    ap (λ (gs : Table). slice_get (keys_of gs) i) (sym same) ∙ slice_get-get_or (keys_of es) i sub p.0 ∙ ap (λ (k : ℕ). Some k) (sym (eqb-true sub (get_or (keys_of es) i sub) p.1))

pub held_pushed : (table es fs : Table) (sub q : ℕ) (v : HeldGroups) → es ≡ table → v ≡ nothing_held → fs ≡ es ++ (sub, v) ∷ [] → held_at fs q ≡ held_at table q
held_pushed table es fs sub q v same none is =
    ap (λ (gs : Table). held_at gs q) is ∙ ap (λ (w : HeldGroups). held_at (es ++ (sub, w) ∷ []) q) none ∙ pushed es ∙ ap (λ (gs : Table). held_at gs q) same where
      last : (b : Bool) → unwrap_or (cond b (Some nothing_held) None) nothing_held ≡ nothing_held
      last true = refl
      last false = refl

      pushed : (gs : Table) → held_at (gs ++ (sub, nothing_held) ∷ []) q ≡ held_at gs q
      pushed [] = last (eqb q sub)
      pushed (e ∷ gs) = by (eqb q e.0) (pushed gs) where
        by : (b : Bool) → held_at (gs ++ (sub, nothing_held) ∷ []) q ≡ held_at gs q
            → unwrap_or (cond b (Some e.1) (lookup (eqb q) (gs ++ (sub, nothing_held) ∷ []))) nothing_held ≡ unwrap_or (cond b (Some e.1) (lookup (eqb q) gs)) nothing_held
        by true rest = refl
        by false rest = rest

last_at : (es : Table) (sub : ℕ) (v : HeldGroups) → IsHeldAt (es ++ (sub, v) ∷ []) (length es) sub
last_at [] sub v = refl
last_at (e ∷ es) sub v = last_at es sub v

pub pushed_at : (es fs : Table) (sub place : ℕ) (v : HeldGroups) → place ≡ length es → fs ≡ es ++ (sub, v) ∷ [] → IsHeldAt fs place sub
pushed_at es fs sub place v last is = rw (last, is) (last_at es sub v)

stays_at : (es more : Table) (place q : ℕ) → IsHeldAt es place q → IsHeldAt (es ++ more) place q
stays_at [] more place q at = absurd cc
stays_at (e ∷ es) more zero q at = at
stays_at (e ∷ es) more (suc place) q at = stays_at es more place q at

pub places_pushed : (table es fs : Table) (sub place q : ℕ) (v : HeldGroups) → es ≡ table → fs ≡ es ++ (sub, v) ∷ [] → IsHeldAt table place q → IsHeldAt fs place q
places_pushed table es fs sub place q v same is at =
    subst (λ (gs : Table). IsHeldAt gs place q) (sym is) (stays_at es ((sub, v) ∷ []) place q (subst (λ (gs : Table). IsHeldAt gs place q) (sym same) at))

-- ---- one that is written at its place

pub at_table : (table es : Table) (place sub : ℕ) → es ≡ table → IsHeldAt table place sub → IsHeldAt es place sub
at_table table es place sub same at = subst (λ (gs : Table). IsHeldAt gs place sub) (sym same) at

module _ (table es : Table) (place sub : ℕ) (before after : HeldGroups) (same : es ≡ table) (at : IsHeldAt table place sub) (distinct : IsDistinct eqb (keys_of es))
    (there : Some before ≡ slice_get (values_of es) place) where
  at_es : IsHeldAt es place sub
  at_es = at_table table es place sub same at

  pub held_before : held_at table sub ≡ before
  held_before = ap (λ (gs : Table). held_at gs sub) (sym same) ∙ held_there es place sub before distinct at_es there

  pub held_after : held_at (set_value_at es place after) sub ≡ after
  held_after = here_written es (set_value_at es place after) place sub after distinct at_es refl

  pub others_held : (q : ℕ) → q ≢ sub → held_at (set_value_at es place after) q ≡ held_at table q
  others_held q other = others_written es (set_value_at es place after) place sub q after distinct at_es refl other ∙ ap (λ (gs : Table). held_at gs q) same

  pub places_held : (p q : ℕ) → IsHeldAt table p q → IsHeldAt (set_value_at es place after) p q
  places_held p q stands = ap (λ (ks : List ℕ). slice_get ks p) (keys_written es place after ∙ ap (λ (gs : Table). keys_of gs) same) ∙ stands

  pub groups_held : after.groups ≡ before.groups → (q : ℕ) → groups_at (set_value_at es place after) q ≡ groups_at table q
  groups_held is q = by (eqb q sub) refl where
    by : (b : Bool) → eqb q sub ≡ b → groups_at (set_value_at es place after) q ≡ groups_at table q
    by true one =
        let here : q ≡ sub = eqb-true q sub one in
        ap (groups_at (set_value_at es place after)) here ∙ ap (λ (h : HeldGroups). h.groups) held_after ∙ is ∙ ap (λ (h : HeldGroups). h.groups) (sym held_before) ∙ ap (groups_at table) (sym here)
    by false one = ap (λ (h : HeldGroups). h.groups) (others_held q (eqb-false q sub one))

-- ---- where a subscription has no groups

pub none_stands : (cs : List Sample) → SumsStand [] cs → cs ≡ []
none_stands [] stands = refl
none_stands (c ∷ cs) stands = by (same_group (group_of c) (group_of c)) (same_group-itself (group_of c)) (stands (group_of c)) where
  by : (b : Bool) → b ≡ true → None ≡ sums_over (cond b (c ∷ of_group (group_of c) cs) (of_group (group_of c) cs)) → c ∷ cs ≡ []
  by true is found = absurd cc
  by false is found = absurd cc

pub none_closed : (t : ℕ) (cs : List Sample) → SumsStand [] cs → [] ≡ closed_by t cs
unfolding closed_by
none_closed t cs stands = rw (none_stands cs stands) refl

-- ---- the exits of calls on one subscription

pub closed_there : {V E : Type 0} (made : Result V E) (items : V → List DataRecord) (table : Table) (sub t : ℕ) (here : HeldGroups) (rs : List DataRecord) → Some here ≡ lookup (eqb sub) table
    → IfOk made (λ v. items v ≡ rs) → ((counted : List Sample) → SumsStand here.groups counted → rs ≡ closed_by t counted)
    → IfOk made (λ v. (counted : List Sample) → SumsStand (groups_at table sub) counted → items v ≡ closed_by t counted)
closed_there (Ok v) items table sub t here rs there is all =
    λ counted stands. is ∙ all counted (subst (λ (e : HeldGroups). SumsStand e.groups counted) (held_found table table sub here refl there) stands)
closed_there (Err e) items table sub t here rs there is all = tt

pub closed_nowhere : (table : Table) (sub t : ℕ) (items : List DataRecord) (counted : List Sample) → None ≡ lookup (eqb sub) table → items ≡ []
    → SumsStand (groups_at table sub) counted → items ≡ closed_by t counted
closed_nowhere table sub t items counted none is stands =
    is ∙ none_closed t counted (subst (λ (e : HeldGroups). SumsStand e.groups counted) (held_nowhere table table sub refl none) stands)

-- ---- of each subscription

-- what is not kept is nothing
pub none_kept : (h : HeldGroups) → holds_groups h ≡ false → h ≡ nothing_held
none_kept h none = by h.groups h.ready refl refl none where
  by : (gs : Entries) (rs : List Group) → h.groups ≡ gs → h.ready ≡ rs → nat_lt 0 (length (keys_of gs ++ rs)) ≡ false → h ≡ nothing_held
  by [] [] groups ready is = λ i. record { groups = groups i; ready = ready i }
  by [] (g ∷ rs) groups ready is = absurd (omega (arith, ltb-false 0 _ is, length-append {A = Group} [] (g ∷ rs)))
  by (e ∷ es) rs groups ready is = absurd (omega (arith, ltb-false 0 _ is, length-append (keys_of (e ∷ es)) rs))

-- what relates what is held before to what is after, where each was written and those that are nothing went
module _ {F : Type 0} (T : F → ℕ → HeldGroups → Bool → HeldGroups → F → Type 0) (R : HeldGroups → HeldGroups → Type 0) (nothing : R nothing_held nothing_held) (f : F)
    (says : (k : ℕ) (v : HeldGroups) (b : Bool) (w : HeldGroups) (g : F) → T f k v b w g → (b ≡ holds_groups w) × R v w × (g ≡ f)) where
  gone : (es kept : Table) → RetainsPairs T f es kept → (q : ℕ) → AllByRecursion (λ k. eqb q k ≡ false) (keys_of es) → lookup (eqb q) kept ≡ None
  gone [] kept ran q apart = ap (lookup (eqb q)) ran
  gone (e ∷ es) kept ran q apart =
      let s = says e.0 e.1 ran.0 ran.1 ran.2 ran.4 in
      let rest = gone es ran.3 (subst (λ (g : F). RetainsPairs T g es ran.3) s.2 ran.5) q apart.1 in
      ap (lookup (eqb q)) ran.6 ∙ by ran.0 rest
    where
      by : (b : Bool) → lookup (eqb q) ran.3 ≡ None → lookup (eqb q) (cond b ((e.0, ran.1) ∷ ran.3) ran.3) ≡ None
      by true rest = ap (λ c. cond c (Some ran.1) (lookup (eqb q) ran.3)) apart.0 ∙ rest
      by false rest = rest

  pub all_written : (es kept : Table) → IsDistinct eqb (keys_of es) → RetainsPairs T f es kept → (q : ℕ) → R (held_at es q) (held_at kept q)
  unfolding IsDistinct
  all_written [] kept distinct ran q = rw ran nothing
  all_written (e ∷ es) kept distinct ran q =
      let s = says e.0 e.1 ran.0 ran.1 ran.2 ran.4 in
      let left = subst (λ (g : F). RetainsPairs T g es ran.3) s.2 ran.5 in
      let rest = all_written es ran.3 distinct.1 left q in
      subst (λ (gs : Table). R (held_at (e ∷ es) q) (held_at gs q)) (sym ran.6) (by ran.0 (eqb q e.0) refl (sym s.0) s.1 rest left)
    where
      by : (b same : Bool) → eqb q e.0 ≡ same → holds_groups ran.1 ≡ b → R e.1 ran.1 → R (held_at es q) (held_at ran.3 q) → RetainsPairs T f es ran.3
          → R (held_at (e ∷ es) q) (held_at (cond b ((e.0, ran.1) ∷ ran.3) ran.3) q)
      by true true is kept here rest left =
          subst (λ c. R (unwrap_or (cond c (Some e.1) (lookup (eqb q) es)) nothing_held) (unwrap_or (cond c (Some ran.1) (lookup (eqb q) ran.3)) nothing_held)) (sym is) here
      by true false is kept here rest left =
          subst (λ c. R (unwrap_or (cond c (Some e.1) (lookup (eqb q) es)) nothing_held) (unwrap_or (cond c (Some ran.1) (lookup (eqb q) ran.3)) nothing_held)) (sym is) rest
      by false true is kept here rest left =
          let none : lookup (eqb q) ran.3 ≡ None = gone es ran.3 left q (subst (λ n. AllByRecursion (λ k. eqb n k ≡ false) (keys_of es)) (sym (eqb-true q e.0 is)) distinct.0) in
          subst (λ c. R (unwrap_or (cond c (Some e.1) (lookup (eqb q) es)) nothing_held) (held_at ran.3 q)) (sym is)
          (subst (λ (o : Option HeldGroups). R e.1 (unwrap_or o nothing_held)) (sym none) (subst (R e.1) (none_kept ran.1 kept) here))
      by false false is kept here rest left =
          subst (λ c. R (unwrap_or (cond c (Some e.1) (lookup (eqb q) es)) nothing_held) (held_at ran.3 q)) (sym is) rest
