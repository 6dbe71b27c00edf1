-- What is added to groups at their places, once these were made ready, and the groups after that.
use Rattle.std.specs.Prelude.{◌≡◌, ◌⊎◌, ℕ, Bool, true, List, [], ◌∷◌, ◌++◌, Some, map, fold, slice_get, unwrap_or}
use Rattle.std.specs.List.{AllByRecursion, AllZip, list_any}
use Rattle.std.specs.Map.{values_of}
use Rattle.indexmap.specs.IndexMap.{set_value_at}
use Rattle.flow_aggregate.specs.declared.sums.Sums.{Sums}
use Rattle.flow_aggregate.specs.declared.addition.Addition.{Addition}
use Rattle.flow_aggregate.specs.Sums.{no_sums, plus}
use Rattle.flow_aggregate.specs.Groups.{Group}
use Rattle.flow_aggregate.specs.GroupOrder.{same_group}
use Rattle.flow_aggregate.specs.Running.{Entries, HeldGroups, group_places}
use Rattle.flow_aggregate.specs.Counts.{Count}

-- the group is one of these
abbrev pub is_group_among : List Group → Group → Bool
is_group_among groups g = list_any (same_group g) groups

-- the groups of what is added
abbrev pub groups_in : List Count → List Group
groups_in counts = map (λ c. c.group) counts

-- at this place stands the group of the count, and these are its counters
abbrev pub AddsCount : List Group → Addition → Count → Type 0
AddsCount groups a c = (slice_get groups a.place ≡ Some c.group) × (a.counters ≡ c.counters)

-- these additions were made ready for these counts, one for each, and no group was made for anything else
pub record AreReadyToAdd (held : HeldGroups) (additions : List Addition) (counts : List Count) : Type 0 where
  pub each : AllZip (AddsCount (group_places held)) additions counts
  pub wanted : AllByRecursion (λ g. is_group_among (groups_in counts) g ≡ true) held.ready

-- this group was made, or none
abbrev pub MakesAtMost : Group → List Group → List Group → Type 0
MakesAtMost g before after = (after ≡ before) ⊎ (after ≡ before ++ g ∷ [])

-- ---- the groups after that

abbrev pub sums_of : Entries → ℕ → Sums
sums_of entries place = unwrap_or (slice_get (values_of entries) place) no_sums

abbrev pub with_addition : Entries → Addition → Entries
with_addition entries a = set_value_at entries a.place (plus (sums_of entries a.place) a.counters)

abbrev pub with_additions : Entries → List Addition → Entries
with_additions entries additions = fold with_addition entries additions
