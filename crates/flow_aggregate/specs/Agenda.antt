-- How groups are kept: each is listed for the time at which it closes, so that those that are due are found without a look at the others.
use Rattle.std.specs.Prelude.{◌≡◌, ◌+◌, ◌≤◌, ℕ, ◌==◌, List, [], ◌∷◌, ◌++◌, Option, Some, None, is_some, filter, not, drop, length, slice_get, IfSome, if◌then◌else◌}
use Rattle.std.specs.Global.{Vec}
use Rattle.std.specs.List.{IsDistinct, AllByRecursion, list_any}
use Rattle.std.specs.Map.{lookup, keys_of}
use Rattle.std.specs.Ordering.{nat_cmp}
use Rattle.std.specs.BTreeMap.{is_at}
use Rattle.flow_aggregate.specs.Sums.{no_sums}
use Rattle.flow_aggregate.specs.Placing.{closes_at}
use Rattle.flow_aggregate.specs.Groups.{Group}
use Rattle.flow_aggregate.specs.GroupOrder.{same_group}
use Rattle.flow_aggregate.specs.Running.{Entries, sums_at, is_due}

-- groups by times
abbrev pub Timed : Type 0
Timed = List (ℕ × Vec Group)

-- when a group closes
abbrev pub time_of : Group → ℕ
time_of g = closes_at g.definition g.start

abbrev pub listed_in : Option (Vec Group) → List Group
listed_in None = []
listed_in (Some groups) = groups.items

-- the groups that are listed for a time
abbrev pub listed_at : Timed → ℕ → List Group
listed_at agenda time = listed_in (lookup (is_at (nat_cmp time)) agenda)

-- each group is kept once, and listed once, for the time at which it closes; and no other group is listed
pub record AreListed (entries : Entries) (agenda : Timed) : Type 0 where
  pub keys : IsDistinct same_group (keys_of entries)
  pub times : (time : ℕ) → AllByRecursion (λ g. time_of g ≡ time) (listed_at agenda time)
  pub once : (time : ℕ) → IsDistinct same_group (listed_at agenda time)
  pub those : (g : Group) → list_any (same_group g) (listed_at agenda (time_of g)) ≡ is_some (sums_at entries g)

-- in the first so many entries records count, and the others have no sums yet
pub record AreGroupsKept (counted : ℕ) (entries : Entries) (agenda : Timed) : Type 0 where
  pub within : counted ≤ length entries
  pub empty : AllByRecursion (λ e. e.1 ≡ no_sums) (drop counted entries)
  pub listed : AreListed entries agenda

-- ---- what calls leave of the lists

abbrev pub ListsTheSame : Timed → Timed → Type 0
ListsTheSame before after = (q : ℕ) → listed_at after q ≡ listed_at before q

-- one more group is listed
abbrev pub ListsOneMore : Group → Timed → Timed → Type 0
ListsOneMore g before after = (q : ℕ) → listed_at after q ≡ (if time_of g == q then listed_at before q ++ g ∷ [] else listed_at before q)

abbrev pub without : Group → List Group → List Group
without g groups = filter (λ h. not (same_group g h)) groups

-- a group is taken out of its list
abbrev pub ListsWithout : Group → Timed → Timed → Type 0
ListsWithout g before after = (q : ℕ) → listed_at after q ≡ (if time_of g == q then without g (listed_at before q) else listed_at before q)

-- the first time, if there is one, is no later than t
abbrev pub FirstBy : ℕ → Timed → Type 0
FirstBy t agenda = IfSome (slice_get agenda 0) (λ e. e.0 ≤ t)

-- nothing is listed for a time up to t
abbrev pub NoneListedTo : ℕ → Timed → Type 0
NoneListedTo t agenda = (q : ℕ) → q ≤ t → listed_at agenda q ≡ []

-- the groups of this time are taken out, all of them
pub record TakesOut (time : ℕ) (groups : List Group) (before after : Timed) : Type 0 where
  pub those : listed_at before time ≡ groups
  pub others : (q : ℕ) → listed_at after q ≡ (if time == q then [] else listed_at before q)

-- those of a time up to t
abbrev pub TakesOutDue : ℕ → List Group → Timed → Timed → Type 0
TakesOutDue t groups before after = (time : ℕ) × (time ≤ t) × TakesOut time groups before after

-- ---- what closing leaves

-- the groups that are due are gone, from the lists as well, and the others have the sums that they had
pub record ClosesDue (t : ℕ) (before after : Entries) (agenda : Timed) : Type 0 where
  pub listed : AreListed after agenda
  pub sums : (g : Group) → sums_at after g ≡ (if is_due t g then None else sums_at before g)

-- those that are due are gone from the lists
pub record ListsNoneTo (t : ℕ) (before after : Timed) : Type 0 where
  pub gone : NoneListedTo t after
  pub stay : (q : ℕ) → t + 1 ≤ q → listed_at after q ≡ listed_at before q
