-- What running groups stand for, and what an advance of the clock closes. Both are said of the records that were counted, and
-- not of the groups that are kept (RFC 7015, section 5.1; the grace and the order are this project's own).
use Rattle.std.specs.Prelude.{◌≡◌, ℕ, Bool, List, [], ◌∷◌, ◌++◌, map, filter, not, take, drop, Option, Some, None, nat_le, if◌then◌else◌}
use Rattle.std.specs.List.{IsDistinct, flat_map}
use Rattle.std.specs.List.Sorted.{IsSortedByKey}
use Rattle.std.specs.Map.{lookup, keys_of}
use Rattle.ipfix_template.specs.DataRecord.{DataRecord}
use Rattle.policy_text.specs.Policies.{Aggregate}
use Rattle.flow_aggregate.specs.declared.timing.Timing.TheVariants.{Placed}
use Rattle.flow_aggregate.specs.declared.sums.Sums.{Sums}
use Rattle.flow_aggregate.specs.declared.closed.ClosedAggregate.{ClosedAggregate}
use Rattle.flow_aggregate.specs.Placing.{timing_of, closes_at}
use Rattle.flow_aggregate.specs.Sums.{totals}
use Rattle.flow_aggregate.specs.Groups.{Group, Sample, group_of}
use Rattle.flow_aggregate.specs.GroupOrder.{same_group, group_cmp}

-- groups with their sums
abbrev pub Entries : Type 0
Entries = List (Group × Sums)

-- the sums of a group, where records count in it
abbrev pub sums_at : Entries → Group → Option Sums
sums_at entries g = lookup (same_group g) entries

-- the groups in which records count, with their sums; and those that were made for records that are yet to be added
pub record HeldGroups : Type 0 where
  pub groups : Entries
  pub ready : List Group

abbrev pub nothing_held : HeldGroups
nothing_held = record { groups = []; ready = [] }

-- all of them, by their places
abbrev pub group_places : HeldGroups → List Group
group_places held = keys_of held.groups ++ held.ready

-- ---- the records that were counted

-- those of one group
abbrev pub of_group : Group → List Sample → List Sample
of_group g counted = filter (λ c. same_group g (group_of c)) counted

abbrev pub flows_of : List Sample → List DataRecord
flows_of counted = map (λ c. c.flow) counted

-- their sums, if there are any
abbrev pub sums_over : List Sample → Option Sums
sums_over [] = None
sums_over (c ∷ cs) = Some (totals (flows_of (c ∷ cs)))

-- the groups are those of these records
abbrev pub SumsStand : Entries → List Sample → Type 0
SumsStand entries counted = (g : Group) → sums_at entries g ≡ sums_over (of_group g counted)

-- the record counts in some interval of the aggregate
abbrev pub IsPlaced : Aggregate → DataRecord → Type 0
IsPlaced a r = (closed_to start : ℕ) × (timing_of a r closed_to ≡ Placed start)

-- ---- an advance of the clock to t

-- it comes to the end of the group's interval and the grace behind it
abbrev pub is_due : ℕ → Group → Bool
is_due t g = nat_le (closes_at g.definition g.start) t

-- the records whose groups stay
abbrev pub staying : ℕ → List Sample → List Sample
staying t counted = filter (λ c. not (is_due t (group_of c))) counted

-- what it closes of a group
abbrev pub closed_sums : ℕ → List Sample → Group → Option Sums
closed_sums t counted g = if is_due t g then sums_over (of_group g counted) else None

-- a closed group with its sums
abbrev pub pair_of : ClosedAggregate → Group × Sums
pair_of c = (c.group, c.sums)

abbrev pub pairs_of : List ClosedAggregate → List (Group × Sums)
pairs_of closed = map pair_of closed

abbrev pub sums_in : List ClosedAggregate → Group → Option Sums
sums_in closed g = lookup (same_group g) (pairs_of closed)

-- the closed groups, each once, in their order, with the sums of their records
pub record AreClosed (t : ℕ) (counted : List Sample) (closed : List ClosedAggregate) : Type 0 where
  pub ascend : IsSortedByKey (λ c. c.group) group_cmp closed
  pub once : IsDistinct same_group (keys_of (pairs_of closed))
  pub sums : (g : Group) → sums_in closed g ≡ closed_sums t counted g

-- ---- what is closed of the entries

abbrev pub closed_one : Group → Sums → ClosedAggregate
closed_one g s = record { group = g; sums = s }

abbrev pub due_one : ℕ → Group → Sums → List ClosedAggregate
due_one t g s = if is_due t g then closed_one g s ∷ [] else []

abbrev pub due_of : ℕ → Entries → List ClosedAggregate
due_of t [] = []
due_of t (e ∷ entries) = due_one t e.0 e.1 ++ due_of t entries

-- what is closed of a group that is due
abbrev pub closed_with : Group → Option Sums → List ClosedAggregate
closed_with g None = []
closed_with g (Some s) = closed_one g s ∷ []

abbrev pub closed_at : Entries → Group → List ClosedAggregate
closed_at entries g = closed_with g (sums_at entries g)

-- what is closed of these groups, which are due
abbrev pub closed_among : Entries → List Group → List ClosedAggregate
closed_among entries groups = flat_map (closed_at entries) groups

-- the groups that are due, each once, with their sums
pub record AreDue (t : ℕ) (entries : Entries) (due : List ClosedAggregate) : Type 0 where
  pub once : IsDistinct same_group (keys_of (pairs_of due))
  pub sums : (g : Group) → sums_in due g ≡ (if is_due t g then sums_at entries g else None)

-- ---- how they are kept

-- in the first so many entries records count
abbrev pub held_of : ℕ → Entries → HeldGroups
held_of counted entries = record { groups = take counted entries; ready = keys_of (drop counted entries) }
