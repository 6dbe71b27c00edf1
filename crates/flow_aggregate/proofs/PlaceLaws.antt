-- The places of groups, and what is ready once a place was found or made for each count.
use Rattle.std.proofs.Common.{◌≡◌, ℕ, zero, suc, ◌+◌, ◌≤◌, ◌<◌, length, take, drop, get_or, slice_get, Bool, true, false, ◌||◌, List, [], ◌∷◌, ◌++◌, Option, Some, None, is_some, Result, Ok, Err, IfOk, refl, sym, ap, ◌∙◌, subst, arith, append_assoc, append-nil, length-append, inl, inr}
use Rattle.std.specs.Prelude.{position}
use Rattle.std.specs.List.{AllByRecursion, AllZip, list_any}
use Rattle.std.specs.Map.{lookup, keys_of}
use Rattle.std.proofs.lemmas.List.{take_more, take_all, drop_all, take-append-le, drop-append-le, take-append-drop, map-append, length-map, length_push}
use Rattle.std.proofs.lemmas.List.Folds.{list_any-append}
use Rattle.std.proofs.lemmas.List.Quantifiers.{position-Some}
use Rattle.std.proofs.lemmas.Map.Made.{is_some-lookup}
use Rattle.std.proofs.lemmas.Option.{slice_get-get_or}
use Rattle.std.proofs.lemmas.Slice.Zip.{all_zipped_more}
use Rattle.sequences.proofs.OptionLaws.{none_from_is_some}
use Rattle.flow_aggregate.specs.declared.sums.Sums.{Sums}
use Rattle.flow_aggregate.specs.declared.addition.Addition.{Addition}
use Rattle.flow_aggregate.specs.Groups.{Group}
use Rattle.flow_aggregate.specs.GroupOrder.{same_group, same_group-is, same_group-itself}
use Rattle.flow_aggregate.specs.Running.{Entries, HeldGroups, held_of, group_places}
use Rattle.flow_aggregate.specs.Counts.{Count}
use Rattle.flow_aggregate.specs.Additions.{is_group_among, groups_in, AddsCount, MakesAtMost}

pub places_kept : (n : ℕ) (es : Entries) → keys_of es ≡ group_places (held_of n es)
places_kept n es = ap (λ (ds : Entries). keys_of ds) (sym (take-append-drop n es)) ∙ map-append (λ (e : Group × Sums). e.0) (take n es) (drop n es)

pub length_places : (n : ℕ) (es : Entries) (held : HeldGroups) → held_of n es ≡ held → length (group_places held) ≡ length es
length_places n es held same =
    ap (λ (h : HeldGroups). length (group_places h)) (sym same) ∙ ap length (sym (places_kept n es)) ∙ length-map es (λ (e : Group × Sums). e.0)

-- the place of a group that was found
pub found_place : (gs : List Group) (g : Group) (i : ℕ) → position (same_group g) gs ≡ Some i → slice_get gs i ≡ Some g
found_place gs g i is =
    let p = position-Some (same_group g) gs i g is in
    slice_get-get_or gs i g p.0 ∙ ap (λ (h : Group). Some h) (sym (same_group-is g (get_or gs i g) p.1))

pub last_place : (gs : List Group) (g : Group) → slice_get (gs ++ g ∷ []) (length gs) ≡ Some g
last_place [] g = refl
last_place (h ∷ gs) g = last_place gs g

-- a place stays where more groups are made
pub place_stays : (gs hs : List Group) (i : ℕ) (g : Group) → slice_get gs i ≡ Some g → slice_get (gs ++ hs) i ≡ Some g
place_stays [] hs i g at = absurd cc
place_stays (h ∷ gs) hs zero g at = at
place_stays (h ∷ gs) hs (suc i) g at = place_stays gs hs i g at

-- a group that was looked for in vain is wanting
pub wanting : (n : ℕ) (es : Entries) (held : HeldGroups) (g k : Group) → held_of n es ≡ held → g ≡ k → is_group_among (group_places held) k ≡ false → lookup (same_group g) es ≡ None
wanting n es held g k same is not_there =
    let keys : keys_of es ≡ group_places held = places_kept n es ∙ ap group_places same in
    none_from_is_some (lookup (same_group g) es)
    (is_some-lookup (same_group g) es ∙ ap (λ (gs : List Group). list_any (same_group g) gs) keys ∙ ap (λ h. is_group_among (group_places held) h) is ∙ not_there)

pub not_found : (n : ℕ) (es : Entries) (held : HeldGroups) (k : Group) (found : Option ℕ) → held_of n es ≡ held → is_some found ≡ is_some (lookup (same_group k) es) → found ≡ None
    → is_group_among (group_places held) k ≡ false
not_found n es held k found same there none =
    ap (λ (h : HeldGroups). is_group_among (group_places h) k) (sym same) ∙ ap (λ (gs : List Group). is_group_among gs k) (sym (places_kept n es)) ∙ sym (is_some-lookup (same_group k) es)
    ∙ sym there ∙ ap is_some none

pub found_at : (n : ℕ) (es : Entries) (held : HeldGroups) (k : Group) (found : Option ℕ) (i : ℕ) → held_of n es ≡ held → found ≡ position (same_group k) (keys_of es) → found ≡ Some i
    → slice_get (group_places held) i ≡ Some k
found_at n es held k found i same is there =
    ap (λ (h : HeldGroups). slice_get (group_places h) i) (sym same) ∙ ap (λ (gs : List Group). slice_get gs i) (sym (places_kept n es)) ∙ found_place (keys_of es) k i (sym is ∙ there)

pub made_at : {E : Type 0} (made : Result ℕ E) (held held2 : HeldGroups) (k : Group)
    → IfOk made (λ place. (place ≡ length (group_places held)) × (held2 ≡ record { groups = held.groups; ready = held.ready ++ k ∷ [] })) → IfOk made (λ place. slice_get (group_places held2) place ≡ Some k)
made_at (Err e) held held2 k is = tt
made_at (Ok place) held held2 k is =
    let more : group_places held2 ≡ group_places held ++ k ∷ [] = ap group_places is.1 ∙ sym (append_assoc (keys_of held.groups) held.ready (k ∷ [])) in
    ap (λ (gs : List Group). slice_get gs place) more ∙ ap (λ (i : ℕ). slice_get (group_places held ++ k ∷ []) i) is.0 ∙ last_place (group_places held) k

-- where nothing is ready, all entries count
pub all_counted : (n : ℕ) (es : Entries) (held : HeldGroups) → held_of n es ≡ held → held.ready ≡ [] → es ≡ held.groups
all_counted n es held same none =
    sym (take-append-drop n es) ∙ ap (λ (ds : Entries). take n es ++ ds) (no_entries (drop n es) (ap (λ (h : HeldGroups). h.ready) same ∙ none)) ∙ append-nil (take n es)
    ∙ ap (λ (h : HeldGroups). h.groups) same
  where
    no_entries : (ds : Entries) → keys_of ds ≡ [] → ds ≡ []
    no_entries [] is = refl
    no_entries (d ∷ ds) is = absurd cc

-- so many counted entries, and no others
pub held_whole : (n : ℕ) (es : Entries) → length es ≤ n → held_of n es ≡ record { groups = es; ready = [] }
held_whole n es past = ap (λ (ds : Entries). held_from ds (keys_of (drop n es))) (take_all n es past) ∙ ap (λ (ds : Entries). held_from es (keys_of ds)) (drop_all n es past) where
  held_from : Entries → List Group → HeldGroups
  held_from ds hs = record { groups = ds; ready = hs }

-- a group is made
pub held_more : (n : ℕ) (es fs : Entries) (held : HeldGroups) (g k : Group) (s : Sums) → n ≤ length es → held_of n es ≡ held → fs ≡ es ++ (g, s) ∷ [] → g ≡ k
    → held_of n fs ≡ record { groups = held.groups; ready = held.ready ++ k ∷ [] }
held_more n es fs held g k s within same grown is =
    let front : take n (es ++ (g, s) ∷ []) ≡ take n es = take-append-le n es ((g, s) ∷ []) within in
    let behind : drop n (es ++ (g, s) ∷ []) ≡ drop n es ++ (g, s) ∷ [] = drop-append-le n es ((g, s) ∷ []) within in
    let keys : keys_of (drop n es ++ (g, s) ∷ []) ≡ keys_of (drop n es) ++ g ∷ [] = map-append (λ (e : Group × Sums). e.0) (drop n es) ((g, s) ∷ []) in
    ap (held_of n) grown
    ∙ ap (λ (ds : Entries). held_from ds (keys_of (drop n (es ++ (g, s) ∷ [])))) front
    ∙ ap (λ (hs : List Group). held_from (take n es) hs) (ap (λ (ds : Entries). keys_of ds) behind ∙ keys)
    ∙ ap (λ (h : Group). held_from (take n es) (keys_of (drop n es) ++ h ∷ [])) is
    ∙ ap (λ (h : HeldGroups). held_from h.groups (h.ready ++ k ∷ [])) same
  where
    held_from : Entries → List Group → HeldGroups
    held_from ds hs = record { groups = ds; ready = hs }

-- ---- one count more is ready

adds_stays : (gs hs : List Group) (xs : List Addition) (ks : List Count) → AllZip (AddsCount gs) xs ks → AllZip (AddsCount (gs ++ hs)) xs ks
adds_stays gs hs [] [] adds = tt
adds_stays gs hs [] (k ∷ ks) adds = absurd adds
adds_stays gs hs (a ∷ xs) [] adds = absurd adds
adds_stays gs hs (a ∷ xs) (k ∷ ks) adds = ((place_stays gs hs a.place k.group adds.0.0, adds.0.1), adds_stays gs hs xs ks adds.1)

wanted_stays : (gs hs is : List Group) → AllByRecursion (λ g. is_group_among hs g ≡ true) gs → AllByRecursion (λ g. is_group_among (hs ++ is) g ≡ true) gs
wanted_stays [] hs is wanted = tt
wanted_stays (g ∷ gs) hs is wanted =
    (list_any-append (same_group g) hs is ∙ by (is_group_among hs g) wanted.0, wanted_stays gs hs is wanted.1)
  where
    by : (b : Bool) → b ≡ true → (b || is_group_among is g) ≡ true
    by true there = refl
    by false there = absurd cc

-- so many counts are ready, in room for all
pub record IsMakingReady (old held : HeldGroups) (xs : List Addition) (ks : List Count) (count capacity all : ℕ) : Type 0 where
  pub same : held.groups ≡ old.groups
  pub each : AllZip (AddsCount (group_places held)) xs ks
  pub wanted : AllByRecursion (λ g. is_group_among (groups_in ks) g ≡ true) held.ready
  pub few : length held.ready ≤ count
  pub long : length xs ≡ count
  pub room : all ≤ capacity

pub making_start : (held : HeldGroups) (counts : List Count) (xs : List Addition) (capacity : ℕ) → held.ready ≡ [] → xs ≡ [] → length counts ≤ capacity
    → IsMakingReady held held xs (take 0 counts) 0 capacity (length counts)
making_start held counts xs capacity none nothing room = record {
  same = refl;
  each = subst (λ (ys : List Addition). AllZip (AddsCount (group_places held)) ys []) (sym nothing) tt;
  wanted = subst (λ (gs : List Group). AllByRecursion (λ g. is_group_among [] g ≡ true) gs) (sym none) tt;
  few = subst (λ (gs : List Group). length gs ≤ 0) (sym none) (omega arith);
  long = ap length nothing;
  room = room;
}

-- the group of the last count is among those of all
last_among : (gs : List Group) (g : Group) → is_group_among (gs ++ g ∷ []) g ≡ true
last_among [] g = rw (same_group-itself g) refl
last_among (h ∷ gs) g = by (same_group g h) (last_among gs g) where
  by : (b : Bool) → is_group_among (gs ++ g ∷ []) g ≡ true → (b || is_group_among (gs ++ g ∷ []) g) ≡ true
  by true rest = refl
  by false rest = rest

all_joined : (P : Group → Type 0) (gs hs : List Group) → AllByRecursion P gs → AllByRecursion P hs → AllByRecursion P (gs ++ hs)
all_joined P [] hs one two = two
all_joined P (g ∷ gs) hs one two = (one.0, all_joined P gs hs one.1 two)

pub making_next : (old held held2 : HeldGroups) (xs ys : List Addition) (counts : List Count) (i place capacity : ℕ) (c d : Count) (counters : Sums)
    → i < length counts → c ≡ get_or counts i d → held2.groups ≡ held.groups → MakesAtMost c.group held.ready held2.ready → slice_get (group_places held2) place ≡ Some c.group
    → counters ≡ c.counters → ys ≡ xs ++ record { place = place; counters = counters } ∷ []
    → IsMakingReady old held xs (take i counts) i capacity (length counts) → IsMakingReady old held2 ys (take (i + 1) counts) (i + 1) capacity (length counts)
making_next old held held2 xs ys counts i place capacity c d counters within is same made at counted pushed so =
    elim made [
      | inl none ↦ by [] (none ∙ sym (append-nil held.ready)) tt (omega arith)
      | inr one ↦ by (c.group ∷ []) one (last_among (groups_in (take i counts)) c.group, tt) (omega arith)
    ]
  where
    ks : List Count
    ks = take i counts

    a : Addition
    a = record { place = place; counters = counters }

    more : take (i + 1) counts ≡ ks ++ c ∷ []
    more = take_more counts i d within ∙ ap (λ (k : Count). ks ++ k ∷ []) (sym is)

    groups : groups_in (ks ++ c ∷ []) ≡ groups_in ks ++ c.group ∷ []
    groups = map-append (λ (k : Count). k.group) ks (c ∷ [])

    by : (hs : List Group) → held2.ready ≡ held.ready ++ hs → AllByRecursion (λ g. is_group_among (groups_in ks ++ c.group ∷ []) g ≡ true) hs → length hs ≤ 1
        → IsMakingReady old held2 ys (take (i + 1) counts) (i + 1) capacity (length counts)
    by hs ready wanted few =
        let all : group_places held2 ≡ group_places held ++ hs =
        ap (λ (es : Entries). keys_of es ++ held2.ready) same ∙ ap (λ (gs : List Group). keys_of held.groups ++ gs) ready ∙ sym (append_assoc (keys_of held.groups) held.ready hs) in
        let before : AllZip (AddsCount (group_places held2)) xs ks = subst (λ (gs : List Group). AllZip (AddsCount gs) xs ks) (sym all) (adds_stays (group_places held) hs xs ks so.each) in
        let each : AllZip (AddsCount (group_places held2)) (xs ++ a ∷ []) (ks ++ c ∷ []) = all_zipped_more (AddsCount (group_places held2)) xs ks a c before (at, counted) in
        let each_more : AllZip (AddsCount (group_places held2)) ys (ks ++ c ∷ []) = subst (λ (zs : List Addition). AllZip (AddsCount (group_places held2)) zs (ks ++ c ∷ [])) (sym pushed) each in
        let both : AllByRecursion (λ g. is_group_among (groups_in ks ++ c.group ∷ []) g ≡ true) held2.ready =
        subst (λ (gs : List Group). AllByRecursion (λ g. is_group_among (groups_in ks ++ c.group ∷ []) g ≡ true) gs) (sym ready)
        (all_joined (λ g. is_group_among (groups_in ks ++ c.group ∷ []) g ≡ true) held.ready hs (wanted_stays held.ready (groups_in ks) (c.group ∷ []) so.wanted) wanted) in
        let both_more : AllByRecursion (λ g. is_group_among (groups_in (ks ++ c ∷ [])) g ≡ true) held2.ready =
        subst (λ (gs : List Group). AllByRecursion (λ g. is_group_among gs g ≡ true) held2.ready) (sym groups) both in
        let long : length ys ≡ length xs + 1 = ap length pushed ∙ length_push xs a in
        let many : length held2.ready ≡ length held.ready + length hs = ap length ready ∙ length-append held.ready hs in
        record {
          same = same ∙ so.same;
          each = subst (λ (ls : List Count). AllZip (AddsCount (group_places held2)) ys ls) (sym more) each_more;
          wanted = subst (λ (ls : List Count). AllByRecursion (λ g. is_group_among (groups_in ls) g ≡ true) held2.ready) (sym more) both_more;
          few = omega (arith, many, few, so.few);
          long = omega (arith, long, so.long);
          room = so.room;
        }

pub making_room : (old held : HeldGroups) (xs : List Addition) (ks : List Count) (count capacity capacity2 all : ℕ) → IsMakingReady old held xs ks count capacity all → capacity2 ≡ capacity
    → IsMakingReady old held xs ks count capacity2 all
making_room old held xs ks count capacity capacity2 all so same = subst (λ (n : ℕ). IsMakingReady old held xs ks count n all) (sym same) so
