-- What decides over a message's records: the policy in force, and the time to which the clock was advanced.
use Rattle.std.specs.Prelude.{◌≡◌, ℕ, Bool, List, [], ◌∷◌, map, Option, Some, None, slice_get}
use Rattle.ipfix_template.specs.DataRecord.{DataRecord}
use Rattle.policy_text.specs.Policies.{PolicyMeaning as Policy, Aggregate}
use Rattle.policy_text.specs.Grammar.{IsPolicy}
use Rattle.policy_text.specs.Printing.{policy_text}
use Rattle.policy_text.specs.declared.rule.Rule.{Rule}
use Rattle.rule_table.specs.Cuts.{HaveCuts}
use Rattle.flow_aggregate.specs.declared.timing.Timing.{Timing}
use Rattle.flow_aggregate.specs.Counts.{Count, count_of}
use Rattle.mediator_history.specs.Counting.{timing_at, counted_in}
use Rattle.mediator_shares.specs.Alike.{is_told_apart}

pub record InForce : Type 0 where
  pub policy : Policy
  pub clock : ℕ

abbrev pub in_force_with : Policy → ℕ → InForce
in_force_with policy clock = record { policy = policy; clock = clock }

-- what is kept of a policy: its printed text, its rules, the cuts of their prefixes, its aggregates, and whether a name is one of those that its rules name
pub record IsPolicyKept (policy : Policy) (text : List ℕ) (rules : List Rule) (cuts : List ℕ) (aggregates : List Aggregate) (named : List ℕ → Bool) : Type 0 where
  pub sound : IsPolicy policy
  pub printed : text ≡ policy_text policy
  pub rules_are : rules ≡ policy.rules
  pub cut : HaveCuts cuts policy.rules
  pub aggregates_are : aggregates ≡ policy.aggregates
  pub named_are : (name : List ℕ) → named name ≡ is_told_apart name policy.rules

-- where a record counts in the aggregate at a place of the policy's list
abbrev pub timing_by : InForce → ℕ → DataRecord → Timing
timing_by f place r = timing_at f.policy.aggregates place r f.clock

-- what it adds there, if it counts
abbrev pub count_by : InForce → ℕ → DataRecord → List Count
count_by f place r = map count_of (counted_in (slice_get f.policy.aggregates place) r (timing_by f place r))

abbrev pub as_list : Option Count → List Count
as_list None = []
as_list (Some c) = c ∷ []
