-- What is kept of each domain.
use Rattle.std.proofs.Common.{◌≡◌, ℕ, Bool, true, false, cond, List, [], ◌∷◌, Option, Some, None, Result, Ok, Err, refl, sym, ap, ◌∙◌, subst}
use Rattle.std.specs.Prelude.{map, unwrap_or, IsSomeAnd, OnOk}
use Rattle.std.specs.Ordering.{nat_cmp}
use Rattle.std.specs.Option.{option_map}
use Rattle.std.specs.Map.{keys_of}
use Rattle.std.specs.BTreeMap.{is_at}
use Rattle.std.specs.List.Sorted.{IsStrictlySortedBy}
use Rattle.std.proofs.lemmas.Map.Keys.{IsDistinct-from_sorted}
use Rattle.std.specs.Arc.{arc_value}
use Rattle.ipfix_template.specs.declared.template.Template.{Template}
use Rattle.ipfix_session.specs.declared.numbers.Numbers.{Numbers}
use Rattle.ipfix_session.specs.declared.tables.Tables.{Tables}
use Rattle.ipfix_session.specs.declared.tables.Tables.TheVariants.{Own, Shared}
use Rattle.ipfix_session.specs.Keeping.{at_key}
use Rattle.ipfix_session.specs.Places.{Places, HasPlaces, Tabled, shown_of}
use Rattle.ipfix_session.specs.Standing.{templates_of}
use Rattle.ipfix_session.specs.Domains.{some_of, templates_in, some_templates, shown_tables, place_of, held_templates}
use Rattle.ipfix_session.specs.Sharing.{tables_in}
use Rattle.ipfix_session.specs.Expecting.{itself, shown_numbers, domain_number}
use Rattle.ipfix_session.proofs.PlaceSteps.{shown-at}

-- ---- what is kept

told-templates : (ts : List (ℕ × Template)) → unwrap_or (some_of ts) [] ≡ ts
told-templates [] = refl
told-templates (t ∷ ts) = refl

shown-templates : (found : Option Tabled) → unwrap_or (shown_of some_templates found) [] ≡ unwrap_or (option_map templates_in found) []
shown-templates None = refl
shown-templates (Some t) = told-templates t.templates

pub kept-templates : (es : List (ℕ × Tabled)) (q : ℕ) → IsStrictlySortedBy nat_cmp (keys_of es) → templates_of q (shown_tables es) ≡ held_templates es q
kept-templates es q ordered = ap (λ (o : Option (List (ℕ × Template))). unwrap_or o []) (shown-at some_templates q es (IsDistinct-from_sorted nat_cmp (keys_of es) ordered)) ∙ shown-templates (at_key q es)

ordered_in : (t : Tables) → IsStrictlySortedBy nat_cmp (keys_of (tables_in t))
ordered_in (Own d) = d.ordered
ordered_in (Shared shared) = (arc_value shared).ordered

pub kept-tables : (t : Tables) (q : ℕ) → templates_of q (shown_tables (tables_in t)) ≡ held_templates (tables_in t) q
kept-tables t q = kept-templates (tables_in t) q (ordered_in t)

pub kept-number : (n : Numbers) (q : ℕ) → at_key q (shown_numbers n) ≡ domain_number n q
kept-number n q = shown-at itself q n.by_domain.entries (IsDistinct-from_sorted nat_cmp (keys_of n.by_domain.entries) n.ordered)

-- ---- the room that is made

abbrev pub places_in : Tabled → Places
places_in t = t.places

place_by : (here : Bool) (t : Tabled) (found : Option Tabled) (others : Option Places) → others ≡ option_map places_in found → cond here (Some t.places) others ≡ option_map places_in (cond here (Some t) found)
place_by true t found others is = refl
place_by false t found others is = is

place_in : (q : ℕ) (es : List (ℕ × Tabled)) → at_key q (map place_of es) ≡ option_map places_in (at_key q es)
place_in q [] = refl
place_in q (e ∷ es) = place_by (is_at (nat_cmp q) e.0) e.1 (at_key q es) (at_key q (map place_of es)) (place_in q es)

-- places enough in the table of a domain
abbrev EnoughAt : Places → Option Places → Type 0
EnoughAt need there = IsSomeAnd there (λ p. HasPlaces p need)

pub room_there : (q : ℕ) (es : List (ℕ × Tabled)) (t : Tabled) (need : Places) → at_key q es ≡ Some t → HasPlaces t.places need → IsSomeAnd (at_key q (map place_of es)) (λ p. HasPlaces p need)
room_there q es t need is has = subst (EnoughAt need) (sym (place_in q es ∙ ap (option_map places_in) is)) has

pub room_there_or : {E : Type 0} (r : Result (Unit {0}) E) (q : ℕ) (es : List (ℕ × Tabled)) (t : Tabled) (need : Places) → at_key q es ≡ Some t → OnOk r (HasPlaces t.places need) → OnOk r (IsSomeAnd (at_key q (map place_of es)) (λ p. HasPlaces p need))
room_there_or (Ok u) q es t need is has = room_there q es t need is has
room_there_or (Err e) q es t need is has = tt

pub room_used : (q : ℕ) (es : List (ℕ × Tabled)) (t : Tabled) (need : Places) → at_key q es ≡ Some t → IsSomeAnd (at_key q (map place_of es)) (λ p. HasPlaces p need) → HasPlaces t.places need
room_used q es t need is room = subst (EnoughAt need) (place_in q es ∙ ap (option_map places_in) is) room

pub no_room : (q : ℕ) (es : List (ℕ × Tabled)) (need : Places) → at_key q es ≡ None → IsSomeAnd (at_key q (map place_of es)) (λ p. HasPlaces p need) → ⊥
no_room q es need is room = subst (EnoughAt need) (place_in q es ∙ ap (option_map places_in) is) room
