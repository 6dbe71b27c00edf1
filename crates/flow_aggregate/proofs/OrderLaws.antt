-- What is closed, as the definition lists it: lists of groups with values that are in order and agree in each look-up are one.
use Rattle.std.proofs.Common.{◌≡◌, ℕ, suc, ◌+◌, slice_index_or, Bool, true, false, cond, List, [], ◌∷◌, map, filter, Option, Some, None, refl, sym, ap, ◌∙◌, subst, arith}
use Rattle.std.specs.Prelude.{T, ◌&&◌}
use Rattle.std.specs.List.{IsDistinct}
use Rattle.std.specs.List.Sorted.{IsSortedByKey}
use Rattle.std.specs.Map.{lookup, keys_of}
use Rattle.std.specs.declared.cmp.Ordering.{Ordering}
use Rattle.std.specs.declared.cmp.Ordering.TheVariants.{Less, Equal, Greater}
use Rattle.std.specs.Ordering.{is_lt, is_eq, ordering_reverse}
use Rattle.std.specs.FinMap.Entries.{by_order, put, where_key, find, below_all, is_sorted, is_sorted-where_key, find-where_key, is_sorted-put, find-put, same_entries}
use Rattle.ipfix_template.specs.DataRecord.{DataRecord}
use Rattle.flow_aggregate.specs.declared.sums.Sums.{Sums}
use Rattle.flow_aggregate.specs.declared.closed.ClosedAggregate.{ClosedAggregate}
use Rattle.flow_aggregate.specs.Sums.{totals}
use Rattle.flow_aggregate.specs.Groups.{Group, Sample, group_of}
use Rattle.flow_aggregate.specs.GroupOrder.{same_group, group_cmp, same_group-is, group_total, group_ties}
use Rattle.flow_aggregate.specs.Running.{of_group, flows_of, sums_over, is_due, closed_sums, pairs_of, AreClosed}
use Rattle.flow_aggregate.specs.Closed.{closed_record}
use Rattle.flow_aggregate.specs.Closing.{record_of, put_by, put_group, in_order, groups_of, closed_of, closed_by}

abbrev Valued : Type 0
Valued = List (Group × Sums)

-- ---- groups that tie are one, and a look-up by the order is one by the test

tied_one : (g h : Group) → group_cmp g h ≡ Equal → g ≡ h
tied_one g h tied = same_group-is g h (group_ties g h ∙ ap is_eq tied)

found_by : (es : Valued) (g : Group) → find group_cmp g es ≡ lookup (same_group g) es
found_by [] g = refl
found_by (e ∷ es) g =
    ap (λ b. cond b (Some e.1) (find group_cmp g es)) (sym (group_ties g e.0)) ∙ ap (λ (o : Option Sums). cond (same_group g e.0) (Some e.1) o) (found_by es g)

-- ---- groups in order, with a value each

abbrev valued : (Group → Sums) → List Group → Valued
valued v gs = map (λ g. (g, v g)) gs

put_valued : (v : Group → Sums) (g : Group) (hs : List Group) → valued v (put_group g hs) ≡ put group_cmp g (v g) (valued v hs)
put_valued v g [] = refl
put_valued v g (h ∷ hs) = by (group_cmp g h) refl (put_valued v g hs) where
  by : (o : Ordering) → group_cmp g h ≡ o → valued v (put_group g hs) ≡ put group_cmp g (v g) (valued v hs)
      → valued v (put_by o g h hs (put_group g hs)) ≡ by_order o ((g, v g) ∷ (h, v h) ∷ valued v hs) ((h, v g) ∷ valued v hs) ((h, v h) ∷ put group_cmp g (v g) (valued v hs))
  by Less is rest = refl
  by Equal is rest = ap (λ (x : Group). (h, v x) ∷ valued v hs) (sym (tied_one g h is))
  by Greater is rest = ap (λ (es : Valued). (h, v h) ∷ es) rest

in_order_rises : (v : Group → Sums) (gs : List Group) → T (is_sorted group_cmp (valued v (in_order gs)))
in_order_rises v [] = tt
in_order_rises v (g ∷ gs) =
    subst (λ (es : Valued). T (is_sorted group_cmp es)) (sym (put_valued v g (in_order gs))) (is_sorted-put group_cmp group_total g (v g) (valued v (in_order gs)) (in_order_rises v gs))

-- a value where there are records
abbrev if_any : List Sample → Sums → Option Sums
if_any [] s = None
if_any (c ∷ cs) s = Some s

found_in_order : (v : Group → Sums) (cs : List Sample) (q : Group) → find group_cmp q (valued v (groups_of cs)) ≡ if_any (of_group q cs) (v q)
found_in_order v [] q = refl
found_in_order v (c ∷ cs) q =
    ap (λ (es : Valued). find group_cmp q es) (put_valued v (group_of c) (groups_of cs))
    ∙ find-put group_cmp group_total q (group_of c) (v (group_of c)) (valued v (groups_of cs))
    ∙ ap (λ b. cond b (Some (v (group_of c))) (find group_cmp q (valued v (groups_of cs)))) (sym (group_ties q (group_of c)))
    ∙ by (same_group q (group_of c)) refl (found_in_order v cs q) where
      by : (b : Bool) → same_group q (group_of c) ≡ b → find group_cmp q (valued v (groups_of cs)) ≡ if_any (of_group q cs) (v q)
          → cond b (Some (v (group_of c))) (find group_cmp q (valued v (groups_of cs))) ≡ if_any (cond b (c ∷ of_group q cs) (of_group q cs)) (v q)
      by true is rest = ap (λ (x : Group). Some (v x)) (sym (same_group-is q (group_of c) is))
      by false is rest = rest

-- ---- the list of the definition

abbrev summed : List Sample → Group → Sums
summed counted g = totals (flows_of (of_group g counted))

abbrev listed : ℕ → List Sample → Valued
listed t counted = where_key group_cmp (is_due t) (valued (summed counted) (groups_of counted))

due_valued : (v : Group → Sums) (t : ℕ) (gs : List Group) → where_key group_cmp (is_due t) (valued v gs) ≡ valued v (filter (is_due t) gs)
due_valued v t [] = refl
due_valued v t (g ∷ gs) = by (is_due t g) (due_valued v t gs) where
  by : (b : Bool) → where_key group_cmp (is_due t) (valued v gs) ≡ valued v (filter (is_due t) gs)
      → cond b ((g, v g) ∷ where_key group_cmp (is_due t) (valued v gs)) (where_key group_cmp (is_due t) (valued v gs)) ≡ valued v (cond b (g ∷ filter (is_due t) gs) (filter (is_due t) gs))
  by true rest = ap (λ (es : Valued). (g, v g) ∷ es) rest
  by false rest = rest

any_sums : (cs : List Sample) → if_any cs (totals (flows_of cs)) ≡ sums_over cs
any_sums [] = refl
any_sums (c ∷ cs) = refl

found_listed : (t : ℕ) (counted : List Sample) (q : Group) → find group_cmp q (listed t counted) ≡ closed_sums t counted q
found_listed t counted q =
    find-where_key group_cmp (is_due t) q (λ x tied. ap (λ (g : Group). is_due t g) (sym (tied_one q x tied))) (valued (summed counted) (groups_of counted))
    ∙ ap (λ (o : Option Sums). cond (is_due t q) o None) (found_in_order (summed counted) counted q ∙ any_sums (of_group q counted))

-- ---- what was sorted rises

both : (a b : Bool) → T a → T b → T (a && b)
both true b p q = q
both false b p q = p

first : (a b : Bool) → T (a && b) → T a
first true b p = tt
first false b p = p

second : (a b : Bool) → T (a && b) → T b
second true b p = p
second false b p = absurd p

is_less : (o : Ordering) → T (is_lt o) → o ≡ Less
is_less Less p = refl
is_less Equal p = absurd p
is_less Greater p = absurd p

lower : (g h : Group) (es : Valued) → group_cmp g h ≡ Less → T (below_all group_cmp h es) → T (below_all group_cmp g es)
lower g h [] less below = tt
lower g h (e ∷ es) less below =
    let there = group_total.trans g h e.0 less (is_less (group_cmp h e.0) (first _ _ below)) in
    both (is_lt (group_cmp g e.0)) (below_all group_cmp g es) (subst (λ (o : Ordering). T (is_lt o)) (sym there) tt) (lower g h es less (second _ _ below))

-- not above, and not one
below_by : (o p : Ordering) → o ≡ ordering_reverse p → is_lt p ≡ false → is_eq o ≡ false → o ≡ Less
below_by Less p turned above one = refl
below_by Equal p turned above one = absurd cc
below_by Greater Less turned above one = absurd cc
below_by Greater Equal turned above one = absurd cc
below_by Greater Greater turned above one = absurd cc

rest_sorted : (c : ClosedAggregate) (cs : List ClosedAggregate) → IsSortedByKey (λ d. d.group) group_cmp (c ∷ cs) → IsSortedByKey (λ d. d.group) group_cmp cs
rest_sorted c cs up k d low within =
    let next : suc k + 1 ≡ suc (k + 1) = omega arith in
    subst (λ n. is_lt (group_cmp (slice_index_or (c ∷ cs) n d).group (slice_index_or cs k d).group) ≡ false) next (up (suc k) d (omega arith) (omega (arith, within)))

rises : (cs : List ClosedAggregate) → IsSortedByKey (λ d. d.group) group_cmp cs → IsDistinct same_group (keys_of (pairs_of cs)) → T (is_sorted group_cmp (pairs_of cs))
unfolding IsDistinct
rises [] up once = tt
rises (c ∷ []) up once = tt
rises (c ∷ d ∷ cs) up once =
    let rest : T (is_sorted group_cmp (pairs_of (d ∷ cs))) = rises (d ∷ cs) (rest_sorted c (d ∷ cs) up) once.1 in
    let less : group_cmp c.group d.group ≡ Less =
    below_by (group_cmp c.group d.group) (group_cmp d.group c.group) (group_total.antisymm c.group d.group) (up 0 c (omega arith) (omega arith)) (sym (group_ties c.group d.group) ∙ once.0.0) in
    let here : T (is_lt (group_cmp c.group d.group)) = subst (λ (o : Ordering). T (is_lt o)) (sym less) tt in
    let below : T (below_all group_cmp c.group (pairs_of (d ∷ cs))) =
    both (is_lt (group_cmp c.group d.group)) (below_all group_cmp c.group (pairs_of cs)) here (lower c.group d.group (pairs_of cs) less (first _ _ rest)) in
    both (below_all group_cmp c.group (pairs_of (d ∷ cs))) (is_sorted group_cmp (pairs_of (d ∷ cs))) below rest

-- ---- their records

abbrev record_at : Group × Sums → DataRecord
record_at p = closed_record p.0 p.1

by_pairs : (closed : List ClosedAggregate) → map record_of closed ≡ map record_at (pairs_of closed)
by_pairs [] = refl
by_pairs (c ∷ cs) = ap (λ (rs : List DataRecord). record_of c ∷ rs) (by_pairs cs)

by_groups : (counted : List Sample) (gs : List Group) → map record_at (valued (summed counted) gs) ≡ map (closed_of counted) gs
by_groups counted [] = refl
by_groups counted (g ∷ gs) = ap (λ (rs : List DataRecord). closed_of counted g ∷ rs) (by_groups counted gs)

pub are_those : (t : ℕ) (counted : List Sample) (closed : List ClosedAggregate) → AreClosed t counted closed → map record_of closed ≡ closed_by t counted
unfolding closed_by
are_those t counted closed are =
    let ordered = is_sorted-where_key group_cmp (is_due t) (valued (summed counted) (groups_of counted)) (in_order_rises (summed counted) (map group_of counted)) in
    let same : pairs_of closed ≡ listed t counted =
    same_entries group_cmp group_total tied_one (pairs_of closed) (listed t counted) (rises closed are.ascend are.once) ordered
    (λ q. found_by (pairs_of closed) q ∙ are.sums q ∙ sym (found_listed t counted q)) in
    by_pairs closed ∙ ap (λ (es : Valued). map record_at es) (same ∙ due_valued (summed counted) t (groups_of counted)) ∙ by_groups counted (filter (is_due t) (groups_of counted))
