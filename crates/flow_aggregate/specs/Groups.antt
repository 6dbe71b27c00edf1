-- Groups of records that count together: those of one aggregate that start in one interval and agree in the key (RFC 7015,
-- sections 5.1.1 and 5.2).
use Rattle.std.specs.Prelude.{◌≡◌, ℕ, ◌-◌, ◌≤◌, ◌^◌, List, [], ◌++◌, length, replicate, unwrap_or}
use Rattle.std.specs.List.{flat_map, sum_by, AllByRecursion}
use Rattle.ipfix_element.specs.Element.{Element}
use Rattle.ipfix_template.specs.DataRecord.{DataRecord}
use Rattle.policy_text.specs.Policies.{Aggregate, IsRanged}
use Rattle.flow_aggregate.specs.Values.{first_value, full_width}
use Rattle.flow_aggregate.specs.Placing.{flow_start, interval_start}

-- where the interval starts, the aggregate, and the values of the key's elements, each at full width
pub record Group : Type 0 where
  pub start : ℕ
  pub definition : Aggregate
  pub key : List ℕ

-- a record that counts in an aggregate
pub record Sample : Type 0 where
  pub definition : Aggregate
  pub flow : DataRecord

abbrev pub counted_as : Aggregate → DataRecord → Sample
counted_as a r = record { definition = a; flow = r }

-- a value at full width: zeros before one of reduced size (RFC 7011, section 6.2)
abbrev pub at_full_width : ℕ → List ℕ → List ℕ
at_full_width width value = replicate (width - length value) 0 ++ value

abbrev pub wide_value : DataRecord → Element → List ℕ
wide_value r e = at_full_width (full_width e) (unwrap_or (first_value e r) [])

unfoldable pub key_octets : List Element → DataRecord → List ℕ
key_octets key r = flat_map (wide_value r) key

-- the group that a record counts in
abbrev pub group_of : Sample → Group
group_of c = record {
  start = interval_start c.definition (unwrap_or (flow_start c.flow) 0);
  definition = c.definition;
  key = key_octets c.definition.key c.flow;
}

-- elements that have a full width
abbrev pub HaveWidths : List Element → Type 0
HaveWidths key = AllByRecursion (λ e. 1 ≤ full_width e) key

-- what an aggregate's type and its policy keep of it
pub record IsSummed (a : Aggregate) : Type 0 where
  pub ranged : IsRanged (length a.key) a.interval a.grace
  pub widths : HaveWidths a.key

-- a group of such an aggregate, whose records start before 2^62
pub record IsGroup (g : Group) : Type 0 where
  pub summed : IsSummed g.definition
  pub start : g.start ≤ 2 ^ 62
  pub key : length g.key ≡ sum_by full_width g.definition.key
