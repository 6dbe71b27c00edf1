-- What stands under each ID of a map of templates.
use Rattle.std.proofs.Common.{Global, ◌≡◌, ℕ, Bool, true, false, cond, eqb, List, [], ◌∷◌, Option, Some, None, refl, sym, ap, ◌∙◌}
use Rattle.std.specs.Prelude.{◌||◌}
use Rattle.std.specs.Cmp.{unsigned_tied}
use Rattle.std.specs.declared.cmp.Ordering.{Ordering}
use Rattle.std.specs.declared.cmp.Ordering.TheVariants.{Less}
use Rattle.std.specs.Ordering.{nat_cmp, is_eq}
use Rattle.std.specs.Option.{option_map}
use Rattle.std.specs.declared.sync.Arc.{Arc}
use Rattle.std.specs.Arc.{arc_value}
use Rattle.std.specs.Map.{keys_of}
use Rattle.std.specs.BTreeMap.{is_at}
use Rattle.std.specs.List.{AllZip, AllByRecursion, list_any}
use Rattle.std.specs.List.Sorted.{IsStrictlySortedBy}
use Rattle.std.proofs.lemmas.Bool.{eqb-true}
use Rattle.std.proofs.lemmas.Map.Keys.{IsDistinct-from_sorted, sorted_head}
use Rattle.ipfix_template.specs.declared.template.Template.{Template}
use Rattle.ipfix_session.specs.declared.template_map.TemplateMap.{TemplateMap}
use Rattle.ipfix_session.specs.Keeping.{at_key}
use Rattle.ipfix_session.specs.Places.{with_shown, shown_in, shown_of, AreAmong}
use Rattle.ipfix_session.specs.TemplateMaps.{shown_on, in_map, has_place, places_on}
use Rattle.ipfix_session.proofs.PlaceSteps.{shown-at, among-keys}

-- ---- what is shown under an ID stands there

pub map-at : (s : TemplateMap) (q : ℕ) → at_key q (shown_on s) ≡ in_map s q
map-at s q = shown-at (option_map arc_value) q s.places.entries (IsDistinct-from_sorted nat_cmp (keys_of s.places.entries) s.ordered)

-- maps that show the same have the same template under each ID
pub same_shown : (s t : TemplateMap) → shown_on s ≡ shown_on t → (q : ℕ) → in_map s q ≡ in_map t q
same_shown s t same q = sym (map-at s q) ∙ ap (at_key q) same ∙ map-at t q

-- a map without a place
pub in_map-none : (s : TemplateMap) → s.places.entries ≡ [] → (q : ℕ) → in_map s q ≡ None
in_map-none s none q = ap (λ (es : List (ℕ × Option (Arc Template Global))). shown_of (option_map arc_value) (at_key q es)) none

-- ---- room that is made

-- what has a place on the one has a place on the other
pub places_are : (s t : TemplateMap) → ((q : ℕ) → has_place s q ≡ true → has_place t q ≡ true) → AreAmong (places_on s) (places_on t)
places_are s t there q is = sym (among-keys q t.places.entries) ∙ there q (among-keys q s.places.entries ∙ is)

pub places_there : (s t : TemplateMap) → AreAmong (places_on s) (places_on t) → (q : ℕ) → has_place s q ≡ true → has_place t q ≡ true
places_there s t there q is = among-keys q t.places.entries ∙ there q (sym (among-keys q s.places.entries) ∙ is)

-- an ID that had a place or is still to come has a place then or is still to come
pub room_step : (old new here later : Bool) → (old ≡ true → new ≡ true) → (here ≡ true → new ≡ true) → (old || (here || later)) ≡ true → (new || later) ≡ true
room_step true new here later stays made is = ap (λ (b : Bool). b || later) (stays refl)
room_step false new true later stays made is = ap (λ (b : Bool). b || later) (made refl)
room_step false true false later stays made is = refl
room_step false false false later stays made is = is

-- ---- what was decided is settled

none_above : (id : ℕ) (ids : List ℕ) → AllByRecursion (λ y. nat_cmp id y ≡ Less) ids → list_any (is_at (nat_cmp id)) ids ≡ false
none_above id [] above = refl
none_above id (y ∷ ys) above = ap (λ (r : Ordering). is_eq r || list_any (is_at (nat_cmp id)) ys) above.0 ∙ none_above id ys above.1

none_later : (id q : ℕ) (ids : List ℕ) → IsStrictlySortedBy nat_cmp (id ∷ ids) → q ≡ id → list_any (is_at (nat_cmp q)) ids ≡ false
none_later id q ids sorted same = ap (λ (n : ℕ). list_any (is_at (nat_cmp n)) ids) same ∙ none_above id ids (sorted_head nat_cmp id ids sorted)

settle_step : (here later : Bool) (left left' kept kept' target : Option Template) → (here ≡ true → later ≡ false) → left' ≡ cond here None left → kept' ≡ cond here left kept → cond (here || later) left kept ≡ target → cond later left' kept' ≡ target
settle_step true true left left' kept kept' target none l k is = absurd (let e = none refl in cc)
settle_step true false left left' kept kept' target none l k is = k ∙ is
settle_step false true left left' kept kept' target none l k is = l ∙ is
settle_step false false left left' kept kept' target none l k is = k ∙ is

cond_here : (here : Bool) (x y kept : Option Template) → (here ≡ true → x ≡ y) → cond here x kept ≡ cond here y kept
cond_here true x y kept same = same refl
cond_here false x y kept same = refl

-- one more ID is settled: what was left of it is taken away there, and kept here
pub settled_then : (id : ℕ) (ids : List ℕ) (left left' kept kept' target : ℕ → Option Template) (x : Option Template) → IsStrictlySortedBy nat_cmp (id ∷ ids) → x ≡ left id → ((q : ℕ) → left' q ≡ cond (eqb q id) None (left q)) → ((q : ℕ) → kept' q ≡ cond (eqb q id) x (kept q))
    → ((q : ℕ) → cond (list_any (is_at (nat_cmp q)) (id ∷ ids)) (left q) (kept q) ≡ target q) → (q : ℕ) → cond (list_any (is_at (nat_cmp q)) ids) (left' q) (kept' q) ≡ target q
settled_then id ids left left' kept kept' target x sorted x-is l k is q =
    let here : is_at (nat_cmp q) id ≡ eqb q id = unsigned_tied q id in
    settle_step (is_at (nat_cmp q) id) (list_any (is_at (nat_cmp q)) ids) (left q) (left' q) (kept q) (kept' q) (target q)
    (λ e. none_later id q ids sorted (eqb-true q id (sym here ∙ e)))
    (l q ∙ ap (λ (b : Bool). cond b None (left q)) (sym here))
    (k q ∙ cond_here (eqb q id) x (left q) (kept q) (λ e. x-is ∙ ap left (sym (eqb-true q id e))) ∙ ap (λ (b : Bool). cond b (left q) (kept q)) (sym here))
    (is q)

pub room_then : (here left left' kept kept' : Bool) → left' ≡ cond here false left → (here ≡ false → kept' ≡ kept) → (left ≡ true → kept ≡ true) → left' ≡ true → kept' ≡ true
room_then true left left' kept kept' l k room is = absurd cc
room_then false left left' kept kept' l k room is = k refl ∙ room (sym l ∙ is)

-- ---- a clone

-- places of which one is a clone of the other
record IsCloning {X : Type 0} (f : X → Template) (D : Option X → Option X → Type 0) : Type 0 where
  none : (y : X) → D None (Some y) → ⊥
  some : (x : X) → D (Some x) None → ⊥
  both : (x y : X) → D (Some x) (Some y) → f y ≡ f x

same_place : {X : Type 0} (f : X → Template) (D : Option X → Option X → Type 0) → IsCloning f D → (p q : Option X) → D p q → option_map f q ≡ option_map f p
same_place f D cloning None None d = refl
same_place f D cloning None (Some y) d = absurd (cloning.none y d)
same_place f D cloning (Some x) None d = absurd (cloning.some x d)
same_place f D cloning (Some x) (Some y) d = ap (λ (t : Template). Some t) (cloning.both x y d)

shown_same : {X : Type 0} (f : X → Template) (D : Option X → Option X → Type 0) → IsCloning f D → (old new : List (ℕ × Option X)) → AllZip (λ p q. (q.0 ≡ p.0) × D p.1 q.1) old new → shown_in (option_map f) new ≡ shown_in (option_map f) old
shown_same f D cloning [] [] a = refl
shown_same f D cloning [] (y ∷ ys) a = absurd a
shown_same f D cloning (x ∷ xs) [] a = absurd a
shown_same f D cloning (x ∷ xs) (y ∷ ys) a = λ i. with_shown (a.0.0 i) (same_place f D cloning x.1 y.1 a.0.1 i) (shown_same f D cloning xs ys a.1 i)

pub shown_clone : {X : Type 0} (f : X → Template) (D : Option X → Option X → Type 0) → ((y : X) → D None (Some y) → ⊥) → ((x : X) → D (Some x) None → ⊥) → ((x y : X) → D (Some x) (Some y) → f y ≡ f x) → (old new : List (ℕ × Option X)) → AllZip (λ p q. (q.0 ≡ p.0) × D p.1 q.1) old new → shown_in (option_map f) new ≡ shown_in (option_map f) old
shown_clone f D none some both = shown_same f D record { none = none; some = some; both = both }

pub keys_clone : {X : Type 0} (D : X → X → Type 0) → (old new : List (ℕ × X)) → AllZip (λ p q. (q.0 ≡ p.0) × D p.1 q.1) old new → keys_of new ≡ keys_of old
keys_clone D [] [] a = refl
keys_clone D [] (y ∷ ys) a = absurd a
keys_clone D (x ∷ xs) [] a = absurd a
keys_clone D (x ∷ xs) (y ∷ ys) a = λ i. a.0.0 i ∷ keys_clone D xs ys a.1 i
