-- What an advance of the clock closes, as a list: the groups of the records that it comes to, each once, in their order, with the
-- sums of their records (RFC 7015, section 5). The order is this project's own.
use Rattle.std.specs.Prelude.{ℕ, List, [], ◌∷◌, map, filter}
use Rattle.std.specs.declared.cmp.Ordering.{Ordering}
use Rattle.std.specs.declared.cmp.Ordering.TheVariants.{Less, Equal, Greater}
use Rattle.ipfix_template.specs.DataRecord.{DataRecord}
use Rattle.flow_aggregate.specs.declared.closed.ClosedAggregate.{ClosedAggregate}
use Rattle.flow_aggregate.specs.Sums.{totals}
use Rattle.flow_aggregate.specs.Groups.{Group, Sample, group_of}
use Rattle.flow_aggregate.specs.GroupOrder.{group_cmp}
use Rattle.flow_aggregate.specs.Closed.{closed_record}
use Rattle.flow_aggregate.specs.Running.{of_group, flows_of, is_due}

abbrev pub put_by : Ordering → Group → Group → List Group → List Group → List Group
put_by Less g h hs behind = g ∷ h ∷ hs
put_by Equal g h hs behind = h ∷ hs
put_by Greater g h hs behind = h ∷ behind

-- a group put into its place among groups that are in order, unless it is there
abbrev pub put_group : Group → List Group → List Group
put_group g [] = g ∷ []
put_group g (h ∷ hs) = put_by (group_cmp g h) g h hs (put_group g hs)

-- these groups in order, each once
abbrev pub in_order : List Group → List Group
in_order [] = []
in_order (g ∷ gs) = put_group g (in_order gs)

-- the groups of these records in order, each once
abbrev pub groups_of : List Sample → List Group
groups_of counted = in_order (map group_of counted)

-- the record of a closed group
abbrev pub record_of : ClosedAggregate → DataRecord
record_of c = closed_record c.group c.sums

-- the record of one of these groups
abbrev pub closed_of : List Sample → Group → DataRecord
closed_of counted g = closed_record g (totals (flows_of (of_group g counted)))

-- the records of the groups that an advance of the clock to t closes
unfoldable pub closed_by : ℕ → List Sample → List DataRecord
closed_by t counted = map (closed_of counted) (filter (is_due t) (groups_of counted))
