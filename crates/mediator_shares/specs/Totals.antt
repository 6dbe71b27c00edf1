-- How many records of a message count in aggregates, added up over all subscriptions. What is done for each of them is done at once, so
-- this project limits how many there may be.
use Rattle.std.specs.Prelude.{◌<◌, ℕ, List, length}
use Rattle.std.specs.List.{sum_by}
use Rattle.ipfix_template.specs.DataRecord.{DataRecord}
use Rattle.flow_aggregate.specs.Counts.{Count}
use Rattle.mediator_tables.specs.declared.served.Served.{Served}
use Rattle.mediator_shares.specs.InForce.{InForce}
use Rattle.mediator_shares.specs.Sharing.{tallies_of}

-- how much is added to aggregates, for all subscriptions together
abbrev pub total_of : List (ℕ × List Count) → ℕ
total_of tallies = sum_by (λ t. length t.1) tallies

-- a record that counts for several subscriptions counts for each
abbrev pub counts_in_all : ℕ → InForce → List DataRecord → List Served → ℕ
counts_in_all domain f records served = total_of (tallies_of domain f records served)

-- by some policy, at some time, and for some subscriptions, more than so many of these records count
pub record MayCountMoreThan (most domain : ℕ) (records : List DataRecord) : Type 0 where
  pub in_force : InForce
  pub served : List Served
  pub many : most < counts_in_all domain in_force records served
