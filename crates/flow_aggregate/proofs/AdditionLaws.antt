-- What groups stand for after records were added at their places.
use Rattle.std.proofs.Common.{◌≡◌, ℕ, zero, suc, Bool, true, false, cond, ◌||◌, List, [], ◌∷◌, ◌++◌, map, take, drop, slice_get, Option, Some, None, refl, sym, ap, ◌∙◌, subst, append_assoc, append-nil, is_some, true≢false}
use Rattle.std.specs.Prelude.{unwrap_or}
use Rattle.std.specs.List.{AllByRecursion, AllZip, IsDistinct, list_any}
use Rattle.std.specs.Map.{lookup, keys_of}
use Rattle.std.proofs.lemmas.List.{take-append-drop, map-append, map_push}
use Rattle.std.proofs.lemmas.List.Elements.{filter-append}
use Rattle.std.proofs.lemmas.List.Folds.{list_any-append}
use Rattle.std.proofs.lemmas.Map.Made.{is_some-lookup}
use Rattle.flow_aggregate.specs.declared.sums.Sums.{Sums}
use Rattle.flow_aggregate.specs.declared.addition.Addition.{Addition}
use Rattle.flow_aggregate.specs.Sums.{no_sums, totals, plus}
use Rattle.flow_aggregate.specs.Groups.{Group, Sample, group_of}
use Rattle.flow_aggregate.specs.GroupOrder.{same_group, same_group-is}
use Rattle.flow_aggregate.specs.Running.{Entries, held_of, of_group, flows_of, sums_over, SumsStand}
use Rattle.flow_aggregate.specs.Counts.{Count, count_of}
use Rattle.flow_aggregate.specs.Additions.{is_group_among, groups_in, AddsCount, AreReadyToAdd, sums_of, with_addition, with_additions}
use Rattle.flow_aggregate.proofs.SumLaws.{totals_more, so_far}
use Rattle.flow_aggregate.proofs.EntryLaws.{look_written, look_there, keys_written}
use Rattle.flow_aggregate.proofs.RunningLaws.{more_of, none_of}

-- ---- the sums of groups, where a group without records has none

abbrev HaveSums : Entries → List Sample → Type 0
HaveSums es cs = (g : Group) → unwrap_or (lookup (same_group g) es) no_sums ≡ totals (flows_of (of_group g cs))

-- one record more
one_added : (es : Entries) (a : Addition) (c : Sample) (before : List Sample) → IsDistinct same_group (keys_of es) → AddsCount (keys_of es) a (count_of c)
    → HaveSums es before → HaveSums (with_addition es a) (before ++ c ∷ [])
one_added es a c before distinct adds have g =
    by (same_group g (group_of c)) refl (look_written es a.place (group_of c) g (plus (sums_of es a.place) a.counters) distinct adds.0)
  where
    w : Sums
    w = plus (sums_of es a.place) a.counters

    by : (b : Bool) → same_group g (group_of c) ≡ b → lookup (same_group g) (with_addition es a) ≡ cond b (Some w) (lookup (same_group g) es)
        → unwrap_or (lookup (same_group g) (with_addition es a)) no_sums ≡ totals (flows_of (of_group g (before ++ c ∷ [])))
    by true is found =
        let one : group_of c ≡ g = sym (same_group-is g (group_of c) is) in
        let then_sums : sums_of es a.place ≡ totals (flows_of (of_group g before)) =
        look_there es a.place (group_of c) distinct adds.0 ∙ ap (λ h. unwrap_or (lookup (same_group h) es) no_sums) one ∙ have g in
        ap (λ (o : Option Sums). unwrap_or o no_sums) found
        ∙ ap (λ (s : Sums). plus s a.counters) then_sums
        ∙ ap (λ (s : Sums). plus (totals (flows_of (of_group g before))) s) adds.1
        ∙ sym (totals_more (flows_of (of_group g before)) c.flow)
        ∙ ap totals (sym (map_push (λ (d : Sample). d.flow) (of_group g before) c))
        ∙ ap (λ cs. totals (flows_of cs)) (sym (more_of g before c is))
    by false is found =
        ap (λ (o : Option Sums). unwrap_or o no_sums) found ∙ have g ∙ ap (λ cs. totals (flows_of cs)) (sym (none_of g before c is))

pub keys_added : (xs : List Addition) (es : Entries) → keys_of (with_additions es xs) ≡ keys_of es
keys_added [] es = refl
keys_added (a ∷ xs) es = keys_added xs (with_addition es a) ∙ keys_written es a.place (plus (sums_of es a.place) a.counters)

-- all of them
all_added : (xs : List Addition) (cs : List Sample) (es : Entries) (before : List Sample) → IsDistinct same_group (keys_of es)
    → AllZip (AddsCount (keys_of es)) xs (map count_of cs) → HaveSums es before → HaveSums (with_additions es xs) (before ++ cs)
all_added [] [] es before distinct adds have = subst (λ (cs : List Sample). HaveSums es cs) (sym (append-nil before)) have
all_added [] (c ∷ cs) es before distinct adds have = absurd adds
all_added (a ∷ xs) [] es before distinct adds have = absurd adds
all_added (a ∷ xs) (c ∷ cs) es before distinct adds have =
    let keys : keys_of (with_addition es a) ≡ keys_of es = keys_written es a.place (plus (sums_of es a.place) a.counters) in
    subst (λ (ds : List Sample). HaveSums (with_additions (with_addition es a) xs) ds) (append_assoc before (c ∷ []) cs)
    (all_added xs cs (with_addition es a) (before ++ c ∷ []) (subst (λ (gs : List Group). IsDistinct same_group gs) (sym keys) distinct)
    (subst (λ (gs : List Group). AllZip (AddsCount gs) xs (map count_of cs)) (sym keys) adds.1) (one_added es a c before distinct adds.0 have))

-- ---- groups that were made ready have none yet

abbrev AreEmpty : Entries → Type 0
AreEmpty es = AllByRecursion (λ e. e.1 ≡ no_sums) es

none_in : (es : Entries) (g : Group) → AreEmpty es → unwrap_or (lookup (same_group g) es) no_sums ≡ no_sums
none_in [] g empty = refl
none_in (e ∷ es) g empty = by (same_group g e.0) (none_in es g empty.1) where
  by : (b : Bool) → unwrap_or (lookup (same_group g) es) no_sums ≡ no_sums → unwrap_or (cond b (Some e.1) (lookup (same_group g) es)) no_sums ≡ no_sums
  by true rest = empty.0
  by false rest = rest

sums_behind : (es fs : Entries) (g : Group) → AreEmpty fs → unwrap_or (lookup (same_group g) (es ++ fs)) no_sums ≡ unwrap_or (lookup (same_group g) es) no_sums
sums_behind [] fs g empty = none_in fs g empty
sums_behind (e ∷ es) fs g empty = by (same_group g e.0) (sums_behind es fs g empty) where
  by : (b : Bool) → unwrap_or (lookup (same_group g) (es ++ fs)) no_sums ≡ unwrap_or (lookup (same_group g) es) no_sums
      → unwrap_or (cond b (Some e.1) (lookup (same_group g) (es ++ fs))) no_sums ≡ unwrap_or (cond b (Some e.1) (lookup (same_group g) es)) no_sums
  by true rest = refl
  by false rest = rest

have_sums : (es fs : Entries) (before : List Sample) → AreEmpty fs → SumsStand es before → HaveSums (es ++ fs) before
have_sums es fs before empty stands g =
    sums_behind es fs g empty ∙ ap (λ (o : Option Sums). unwrap_or o no_sums) (stands g) ∙ so_far (of_group g before)

-- ---- which groups are there

any_at : (p : Group → Bool) (gs : List Group) (i : ℕ) (g : Group) → slice_get gs i ≡ Some g → p g ≡ true → list_any p gs ≡ true
any_at p [] i g at is = absurd cc
any_at p (h ∷ gs) zero g at is = let one : h ≡ g = cc in rw (one, is) refl
any_at p (h ∷ gs) (suc i) g at is = by (p h) (any_at p gs i g at is) where
  by : (b : Bool) → list_any p gs ≡ true → (b || list_any p gs) ≡ true
  by true rest = refl
  by false rest = rest

-- those that are added to have places
added_there : (gs : List Group) (xs : List Addition) (ks : List Count) (g : Group) → AllZip (AddsCount gs) xs ks → is_group_among (groups_in ks) g ≡ true → is_group_among gs g ≡ true
added_there gs [] [] g adds is = absurd cc
added_there gs [] (k ∷ ks) g adds is = absurd adds
added_there gs (a ∷ xs) [] g adds is = absurd adds
added_there gs (a ∷ xs) (k ∷ ks) g adds is = by (same_group g k.group) refl is (added_there gs xs ks g adds.1) where
  by : (b : Bool) → same_group g k.group ≡ b → (b || is_group_among (groups_in ks) g) ≡ true → (is_group_among (groups_in ks) g ≡ true → is_group_among gs g ≡ true) → is_group_among gs g ≡ true
  by true same is rest = any_at (same_group g) gs a.place k.group adds.0.0 same
  by false same is rest = rest is

-- those that were made are added to
wanted_there : (gs hs : List Group) (g : Group) → AllByRecursion (λ h. is_group_among hs h ≡ true) gs → is_group_among gs g ≡ true → is_group_among hs g ≡ true
wanted_there [] hs g wanted is = absurd cc
wanted_there (h ∷ gs) hs g wanted is = by (same_group g h) refl is (wanted_there gs hs g wanted.1) where
  by : (b : Bool) → same_group g h ≡ b → (b || is_group_among gs g) ≡ true → (is_group_among gs g ≡ true → is_group_among hs g ≡ true) → is_group_among hs g ≡ true
  by true same is rest = ap (λ x. is_group_among hs x) (same_group-is g h same) ∙ wanted.0
  by false same is rest = rest is

-- records of a group are those that were counted, and those that are added
some_over : (cs ds : List Sample) → is_some (sums_over (cs ++ ds)) ≡ (is_some (sums_over cs) || is_some (sums_over ds))
some_over [] ds = refl
some_over (c ∷ cs) ds = refl

some_of : (g : Group) (cs : List Sample) → is_some (sums_over (of_group g cs)) ≡ is_group_among (groups_in (map count_of cs)) g
some_of g [] = refl
some_of g (c ∷ cs) = by (same_group g (group_of c)) (some_of g cs) where
  by : (b : Bool) → is_some (sums_over (of_group g cs)) ≡ is_group_among (groups_in (map count_of cs)) g
      → is_some (sums_over (cond b (c ∷ of_group g cs) (of_group g cs))) ≡ (b || is_group_among (groups_in (map count_of cs)) g)
  by true rest = refl
  by false rest = rest

either : (a b c : Bool) → (b ≡ true → c ≡ true) → (c ≡ true → (a || b) ≡ true) → (a || b) ≡ (a || c)
either true b c there back = refl
either false true c there back = sym (there refl)
either false false true there back = back refl
either false false false there back = refl

same_groups : (es fs : Entries) (xs : List Addition) (before more : List Sample) (g : Group) → SumsStand es before
    → AreReadyToAdd (record { groups = es; ready = keys_of fs }) xs (map count_of more)
    → is_some (lookup (same_group g) (es ++ fs)) ≡ is_some (sums_over (of_group g (before ++ more)))
same_groups es fs xs before more g stands ready =
    let gs : List Group = keys_of es in
    let hs : List Group = keys_of fs in
    let ks : List Group = groups_in (map count_of more) in
    let counted : is_group_among gs g ≡ is_some (sums_over (of_group g before)) = sym (is_some-lookup (same_group g) es) ∙ ap is_some (stands g) in
    let back : is_group_among ks g ≡ true → (is_group_among gs g || is_group_among hs g) ≡ true =
    λ is. sym (list_any-append (same_group g) gs hs) ∙ added_there (gs ++ hs) xs (map count_of more) g ready.each is in
    is_some-lookup (same_group g) (es ++ fs)
    ∙ ap (is_among_of g) (map-append (λ (e : Group × Sums). e.0) es fs)
    ∙ list_any-append (same_group g) gs hs
    ∙ either (is_group_among gs g) (is_group_among hs g) (is_group_among ks g) (wanted_there hs ks g ready.wanted) back
    ∙ ap (λ b. b || is_group_among ks g) counted
    ∙ ap (λ b. is_some (sums_over (of_group g before)) || b) (sym (some_of g more))
    ∙ sym (some_over (of_group g before) (of_group g more))
    ∙ ap (λ cs. is_some (sums_over cs)) (sym (filter-append (λ (d : Sample). same_group g (group_of d)) before more))
  where
    is_among_of : Group → List Group → Bool
    is_among_of g gs = is_group_among gs g

-- ---- so they stand for both

sums_are : (o : Option Sums) (cs : List Sample) → is_some o ≡ is_some (sums_over cs) → unwrap_or o no_sums ≡ totals (flows_of cs) → o ≡ sums_over cs
sums_are None [] there are = refl
sums_are None (c ∷ cs) there are = absurd (true≢false (sym there))
sums_are (Some s) [] there are = absurd (true≢false there)
sums_are (Some s) (c ∷ cs) there are = ap (λ (t : Sums). Some t) are

both_stand : (es fs : Entries) (xs : List Addition) (before more : List Sample) → IsDistinct same_group (keys_of (es ++ fs)) → AreEmpty fs → SumsStand es before
    → AreReadyToAdd (record { groups = es; ready = keys_of fs }) xs (map count_of more) → SumsStand (with_additions (es ++ fs) xs) (before ++ more)
both_stand es fs xs before more distinct empty stands ready g =
    let all : Entries = es ++ fs in
    let keys : keys_of all ≡ keys_of es ++ keys_of fs = map-append (λ (e : Group × Sums). e.0) es fs in
    let adds : AllZip (AddsCount (keys_of all)) xs (map count_of more) = subst (λ (gs : List Group). AllZip (AddsCount gs) xs (map count_of more)) (sym keys) ready.each in
    let have = all_added xs more all before distinct adds (have_sums es fs before empty stands) g in
    let kept : is_some (lookup (same_group g) (with_additions all xs)) ≡ is_some (lookup (same_group g) all) =
    is_some-lookup (same_group g) (with_additions all xs) ∙ ap (λ (gs : List Group). is_group_among gs g) (keys_added xs all) ∙ sym (is_some-lookup (same_group g) all) in
    sums_are (lookup (same_group g) (with_additions all xs)) (of_group g (before ++ more)) (kept ∙ same_groups es fs xs before more g stands ready) have

pub additions_stand : (n : ℕ) (es : Entries) (xs : List Addition) (before more : List Sample) → IsDistinct same_group (keys_of es)
    → AllByRecursion (λ e. e.1 ≡ no_sums) (drop n es) → SumsStand (take n es) before → AreReadyToAdd (held_of n es) xs (map count_of more)
    → SumsStand (with_additions es xs) (before ++ more)
additions_stand n es xs before more distinct empty stands ready =
    let split : take n es ++ drop n es ≡ es = take-append-drop n es in
    subst (λ (ds : Entries). SumsStand (with_additions ds xs) (before ++ more)) split
    (both_stand (take n es) (drop n es) xs before more (subst (λ (ds : Entries). IsDistinct same_group (keys_of ds)) (sym split) distinct) empty stands ready)
