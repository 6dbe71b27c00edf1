-- What a message adds to running groups.
use Rattle.std.specs.Prelude.{◌≡◌, ◌≢◌, ℕ, List, [], ◌∷◌, if◌then◌else◌, ◌==◌}
use Rattle.std.specs.List.{AllByRecursion, AllZip, flat_map}
use Rattle.flow_aggregate.specs.declared.addition.Addition.{Addition}
use Rattle.flow_aggregate.specs.Running.{HeldGroups}
use Rattle.flow_aggregate.specs.Counts.{Count}
use Rattle.flow_aggregate.specs.Additions.{AreReadyToAdd}
use Rattle.mediator_tables.specs.declared.tally.Tally.{Tally}
use Rattle.mediator_tables.specs.declared.tally.Reserved.{Reserved}
use Rattle.mediator_tables.specs.GroupTable.{held_at, IsHeldAt}

-- a tally as a pair: the subscription with what is added to its aggregates
abbrev pub tallied : Tally → ℕ × List Count
tallied t = (t.sub, t.counts.items)

-- what was made ready, with the place where it is added
abbrev pub reserved_for : Reserved → ℕ × List Addition
reserved_for r = (r.place, r.additions.items)

-- that is what is added to a subscription's groups; where anything is, there they stand
abbrev pub IsReadyFor : List (ℕ × HeldGroups) → ℕ × List Addition → ℕ × List Count → Type 0
IsReadyFor groups reserved tally = (reserved.1 ≢ [] → IsHeldAt groups reserved.0 tally.0) × AreReadyToAdd (held_at groups tally.0) reserved.1 tally.1

-- so it is for each
abbrev pub AllReady : List (ℕ × HeldGroups) → List (ℕ × List Addition) → List (ℕ × List Count) → Type 0
AllReady groups reserved tallies = AllZip (IsReadyFor groups) reserved tallies

-- no subscription stands twice
abbrev pub NoneTwice : List (ℕ × List Count) → Type 0
NoneTwice [] = Unit {0}
NoneTwice (t ∷ ts) = AllByRecursion (λ o. o.0 ≢ t.0) ts × NoneTwice ts

-- for some records it is what is added
abbrev pub AreCountable : List (ℕ × HeldGroups) → List (ℕ × List Addition) → Type 0
AreCountable groups reserved = (tallies : List (ℕ × List Count)) × AllReady groups reserved tallies × NoneTwice tallies

-- all that is added for a subscription
abbrev pub added_to : ℕ → List (ℕ × List Count) → List Count
added_to sub tallies = flat_map (λ t. if t.0 == sub then t.1 else []) tallies
