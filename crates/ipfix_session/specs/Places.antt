-- Places under keys: in each stands something that contracts see, or nothing. Room is made as places in which nothing stands.
use Rattle.std.specs.Prelude.{◌≡◌, ℕ, Bool, true, List, [], ◌∷◌, Option, Some, None}
use Rattle.std.specs.Ordering.{nat_cmp}
use Rattle.std.specs.List.{list_any}
use Rattle.std.specs.BTreeMap.{is_at}
use Rattle.ipfix_template.specs.declared.template.Template.{Template}

-- what stands under this key, if anything does, before the others
abbrev pub with_shown : {Y : Type 0} → ℕ → Option Y → List (ℕ × Y) → List (ℕ × Y)
with_shown key None others = others
with_shown key (Some y) others = (key, y) ∷ others

-- what stands in the places, without those where nothing does
abbrev pub shown_in : {X Y : Type 0} → (X → Option Y) → List (ℕ × X) → List (ℕ × Y)
shown_in f [] = []
shown_in f (place ∷ places) = with_shown place.0 (f place.1) (shown_in f places)

-- what stands in a place, where there is one
abbrev pub shown_of : {X Y : Type 0} → (X → Option Y) → Option X → Option Y
shown_of f None = None
shown_of f (Some place) = f place

-- whether the key is one of these
abbrev pub is_among : ℕ → List ℕ → Bool
is_among key keys = list_any (is_at (nat_cmp key)) keys

-- each of the first keys is one of the others
abbrev pub AreAmong : List ℕ → List ℕ → Type 0
AreAmong keys others = (key : ℕ) → is_among key keys ≡ true → is_among key others ≡ true

-- the IDs that have a place in a table: for a plain template, and for an options template
pub record Places : Type 0 where
  pub plain : List ℕ
  pub options : List ℕ

-- each place that is needed is there
pub record HasPlaces (there need : Places) : Type 0 where
  pub plain : AreAmong need.plain there.plain
  pub options : AreAmong need.options there.options

-- a table as contracts see it: its templates by their IDs, and its places
pub record Tabled : Type 0 where
  pub templates : List (ℕ × Template)
  pub places : Places
