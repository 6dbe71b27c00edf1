-- The running groups of subscriptions by their numbers, as contracts see them.
use Rattle.std.specs.Prelude.{◌≡◌, ℕ, Bool, List, Option, Some, unwrap_or, ◌==◌, nat_lt, length, slice_get}
use Rattle.std.specs.Map.{lookup, keys_of}
use Rattle.flow_aggregate.specs.Running.{Entries, HeldGroups, nothing_held, group_places}

-- what is held for a subscription, and nothing where none was made
abbrev pub held_at : List (ℕ × HeldGroups) → ℕ → HeldGroups
held_at table sub = unwrap_or (lookup (λ q. sub == q) table) nothing_held

-- the groups of a subscription
abbrev pub groups_at : List (ℕ × HeldGroups) → ℕ → Entries
groups_at table sub = (held_at table sub).groups

-- at this place stands what is held for the subscription
abbrev pub IsHeldAt : List (ℕ × HeldGroups) → ℕ → ℕ → Type 0
IsHeldAt table place sub = slice_get (keys_of table) place ≡ Some sub

-- there is a group, or one is made ready: nothing else is kept
abbrev pub holds_groups : HeldGroups → Bool
holds_groups held = nat_lt 0 (length (group_places held))
