-- What stays kept where groups are made, counted or dropped.
use Rattle.std.proofs.Common.{◌≡◌, ℕ, zero, suc, ◌+◌, ◌≤◌, length, take, drop, Bool, false, List, [], ◌∷◌, ◌++◌, map, refl, sym, ap, ◌∙◌, subst, arith, length-append, true, cond, Some, is_some}
use Rattle.std.specs.List.{AllByRecursion, IsDistinct, list_any}
use Rattle.std.specs.Map.{lookup, keys_of}
use Rattle.std.proofs.lemmas.Map.Made.{is_some-lookup}
use Rattle.std.proofs.lemmas.Map.Steps.{length-le_from_keys}
use Rattle.std.proofs.lemmas.List.{take_all, drop_all, drop-append-le, length-take, length-map}
use Rattle.flow_aggregate.specs.declared.sums.Sums.{Sums}
use Rattle.flow_aggregate.specs.declared.addition.Addition.{Addition}
use Rattle.flow_aggregate.specs.Sums.{no_sums}
use Rattle.flow_aggregate.specs.Groups.{Group, Sample, group_of}
use Rattle.flow_aggregate.specs.GroupOrder.{same_group, same_group-whole}
use Rattle.flow_aggregate.specs.Running.{Entries, HeldGroups, held_of, of_group, sums_over, SumsStand, staying}
use Rattle.flow_aggregate.specs.Agenda.{Timed, AreListed, AreGroupsKept, ClosesDue}
use Rattle.flow_aggregate.specs.Counts.{count_of}
use Rattle.flow_aggregate.specs.Additions.{AreReadyToAdd, with_additions}
use Rattle.flow_aggregate.proofs.RunningLaws.{stays}
use Rattle.flow_aggregate.proofs.PlaceLaws.{length_places}
use Rattle.flow_aggregate.proofs.AdditionLaws.{keys_added, additions_stand}

abbrev AreEmpty : Entries → Type 0
AreEmpty es = AllByRecursion (λ e. e.1 ≡ no_sums) es

empty_more : (es : Entries) (g : Group) → AreEmpty es → AreEmpty (es ++ (g, no_sums) ∷ [])
empty_more [] g empty = (refl, tt)
empty_more (e ∷ es) g empty = (empty.0, empty_more es g empty.1)

pub kept_more : (n : ℕ) (es fs : Entries) (before after : Timed) (g : Group) → AreGroupsKept n es before → fs ≡ es ++ (g, no_sums) ∷ [] → AreListed fs after → AreGroupsKept n fs after
kept_more n es fs before after g kept grown listed =
    let one : Entries = (g, no_sums) ∷ [] in
    let behind : drop n (es ++ one) ≡ drop n es ++ one = drop-append-le n es one kept.within in
    let long : length fs ≡ length es + 1 = ap length grown ∙ length-append es one in
    record {
      within = omega (arith, kept.within, long);
      empty = subst AreEmpty (sym (ap (drop n) grown ∙ behind)) (empty_more (drop n es) g kept.empty);
      listed = listed;
    }

-- nothing has changed but what is reserved
pub kept_same : (n : ℕ) (es fs : Entries) (before after : Timed) → AreGroupsKept n es before → fs ≡ es → AreListed fs after → AreGroupsKept n fs after
kept_same n es fs before after kept same listed = record {
  within = subst (λ (ds : Entries). n ≤ length ds) (sym same) kept.within;
  empty = subst (λ (ds : Entries). AreEmpty (drop n ds)) (sym same) kept.empty;
  listed = listed;
}

-- where all entries count
pub whole : (n : ℕ) (es : Entries) (agenda : Timed) → n ≡ length es → AreListed es agenda → AreGroupsKept n es agenda
whole n es agenda long listed = record {
  within = omega (arith, long);
  empty = subst AreEmpty (sym (drop_all n es (omega (arith, long)))) tt;
  listed = listed;
}

pub kept_first : (n : ℕ) (es fs : Entries) (before after : Timed) → AreGroupsKept n es before → fs ≡ take n es → AreListed fs after → AreGroupsKept n fs after
kept_first n es fs before after kept is listed = whole n fs after (omega (arith, ap length is, length-take n es, kept.within)) listed

pub length_added : (es : Entries) (xs : List Addition) → length (with_additions es xs) ≡ length es
length_added es xs =
    sym (length-map (with_additions es xs) (λ (e : Group × Sums). e.0)) ∙ ap length (keys_added xs es) ∙ length-map es (λ (e : Group × Sums). e.0)

-- sums are added, and the groups stay
listed_added : (es fs : Entries) (agenda : Timed) → AreListed es agenda → keys_of fs ≡ keys_of es → AreListed fs agenda
listed_added es fs agenda listed keys = record {
  keys = subst (λ (gs : List Group). IsDistinct same_group gs) (sym keys) listed.keys;
  times = listed.times;
  once = listed.once;
  those = λ g. listed.those g ∙ is_some-lookup (same_group g) es ∙ ap (λ (gs : List Group). list_any (same_group g) gs) (sym keys) ∙ sym (is_some-lookup (same_group g) fs);
}

pub kept_added : (n m : ℕ) (es fs : Entries) (agenda : Timed) (xs : List Addition) → AreGroupsKept n es agenda → fs ≡ with_additions es xs → m ≡ length es → AreGroupsKept m fs agenda
kept_added n m es fs agenda xs kept is long =
    whole m fs agenda (long ∙ sym (ap length is ∙ length_added es xs)) (listed_added es fs agenda kept.listed (ap (λ (ds : Entries). keys_of ds) is ∙ keys_added xs es))

-- those that count are kept once
all_front : (P : Group → Type 0) (n : ℕ) (es : Entries) → AllByRecursion P (keys_of es) → AllByRecursion P (keys_of (take n es))
all_front P zero es all = tt
all_front P (suc n) [] all = tt
all_front P (suc n) (e ∷ es) all = (all.0, all_front P n es all.1)

front_once : (n : ℕ) (es : Entries) → IsDistinct same_group (keys_of es) → IsDistinct same_group (keys_of (take n es))
unfolding IsDistinct
front_once zero es once = tt
front_once (suc n) [] once = tt
front_once (suc n) (e ∷ es) once = (all_front (λ y. same_group e.0 y ≡ false) n es once.0, front_once n es once.1)

pub counted_once : (n : ℕ) (es : Entries) (held : HeldGroups) → held_of n es ≡ held → IsDistinct same_group (keys_of es) → IsDistinct same_group (keys_of held.groups)
counted_once n es held same once = subst (λ (h : HeldGroups). IsDistinct same_group (keys_of h.groups)) same (front_once n es once)

-- as many as count are all that count
pub counted_whole : (n i : ℕ) (es : Entries) (held : HeldGroups) → held_of n es ≡ held → n ≤ i → take i held.groups ≡ held.groups
counted_whole n i es held same past =
    take_all i held.groups (omega (arith, past, length-take n es, ap (λ (h : HeldGroups). length h.groups) same))

-- ---- the ends of calls

added_whole : (m : ℕ) (es fs : Entries) (xs : List Addition) → fs ≡ with_additions es xs → m ≡ length es → length fs ≤ m
added_whole m es fs xs is long = omega (arith, ap length is ∙ length_added es xs, long)

-- once all was added, all groups count
pub added_stand : (n m : ℕ) (es fs : Entries) (agenda : Timed) (held : HeldGroups) (xs : List Addition) (before more : List Sample) → AreGroupsKept n es agenda → held_of n es ≡ held → fs ≡ with_additions es xs
    → m ≡ length es → SumsStand held.groups before → AreReadyToAdd held xs (map count_of more) → SumsStand (take m fs) (before ++ more)
added_stand n m es fs agenda held xs before more kept same is long stands ready =
    let stood : SumsStand (take n es) before = subst (λ (h : HeldGroups). SumsStand h.groups before) (sym same) stands in
    let made : AreReadyToAdd (held_of n es) xs (map count_of more) = subst (λ (h : HeldGroups). AreReadyToAdd h xs (map count_of more)) (sym same) ready in
    subst (λ (ds : Entries). SumsStand ds (before ++ more)) (sym (take_all m fs (added_whole m es fs xs is long) ∙ is))
    (additions_stand n es xs before more kept.listed.keys kept.empty stood made)

pub none_ready : (m : ℕ) (es fs : Entries) (xs : List Addition) → fs ≡ with_additions es xs → m ≡ length es → keys_of (drop m fs) ≡ []
none_ready m es fs xs is long = ap (λ (ds : Entries). keys_of ds) (drop_all m fs (added_whole m es fs xs is long))

-- once all that was due is gone, all groups count
pub closed_stand : (t m : ℕ) (es fs : Entries) (agenda : Timed) (held : HeldGroups) (cs : List Sample) → es ≡ held.groups → ClosesDue t es fs agenda → m ≡ length fs → SumsStand held.groups cs
    → SumsStand (take m fs) (staying t cs)
closed_stand t m es fs agenda held cs same closes long stands =
    let stood : SumsStand es cs = subst (λ (ds : Entries). SumsStand ds cs) (sym same) stands in
    subst (λ (ds : Entries). SumsStand ds (staying t cs)) (sym (take_all m fs (omega (arith, long)))) (stays t es fs cs closes.sums stood)

pub no_more_ready : (m : ℕ) (fs : Entries) → m ≡ length fs → keys_of (drop m fs) ≡ []
no_more_ready m fs long = ap (λ (ds : Entries). keys_of ds) (drop_all m fs (omega (arith, long)))

-- ---- how many are kept

abbrev by_group : Sample → Group × Sample
by_group c = (group_of c, c)

some_there : (g : Group) (cs : List Sample) → is_some (sums_over (of_group g cs)) ≡ true → is_some (lookup (same_group g) (map by_group cs)) ≡ true
some_there g [] is = absurd cc
some_there g (c ∷ cs) is = by (same_group g (group_of c)) is (some_there g cs) where
  by : (b : Bool) → is_some (sums_over (cond b (c ∷ of_group g cs) (of_group g cs))) ≡ true
      → (is_some (sums_over (of_group g cs)) ≡ true → is_some (lookup (same_group g) (map by_group cs)) ≡ true)
      → is_some (cond b (Some c) (lookup (same_group g) (map by_group cs))) ≡ true
  by true is rest = refl
  by false is rest = rest is

-- no more groups count than records do
few_counted : (es : Entries) (cs : List Sample) → IsDistinct same_group (keys_of es) → SumsStand es cs → length es ≤ length cs
few_counted es cs once stands =
    let few : length (keys_of es) ≤ length (map by_group cs) =
    length-le_from_keys same_group-whole (keys_of es) (map by_group cs) once
    (λ g there. some_there g cs (ap is_some (sym (stands g)) ∙ is_some-lookup (same_group g) es ∙ there)) in
    omega (arith, few, length-map es (λ (e : Group × Sums). e.0), length-map cs by_group)

pub few_kept : (n : ℕ) (es : Entries) (agenda : Timed) (held : HeldGroups) (cs : List Sample) → AreGroupsKept n es agenda → held_of n es ≡ held → SumsStand held.groups cs
    → length es ≤ length cs + length held.ready
few_kept n es agenda held cs kept same stands =
    let few = few_counted held.groups cs (counted_once n es held same kept.listed.keys) stands in
    omega (arith, few, length_places n es held same, length-append (keys_of held.groups) held.ready, length-map held.groups (λ (e : Group × Sums). e.0))
