-- What records add to groups.
use Rattle.flow_aggregate.specs.declared.sums.Sums.{Sums}
use Rattle.flow_aggregate.specs.Sums.{counters_of}
use Rattle.flow_aggregate.specs.Groups.{Group, Sample, group_of}

-- what a record adds, and to which group
pub record Count : Type 0 where
  pub group : Group
  pub counters : Sums

-- what a record that counts in an aggregate adds
abbrev pub count_of : Sample → Count
count_of c = record { group = group_of c; counters = counters_of c.flow }
