-- The terms on which a message's records are shared. All of this is this project's own rule.
use Rattle.std.specs.Prelude.{ℕ, List, map, string_bytes}
use Rattle.mediator_tables.specs.declared.served.Served.{Served}
use Rattle.mediator_tables.specs.SubscriptionTable.{told}
use Rattle.mediator_shares.specs.InForce.{InForce}
use Rattle.mediator_shares.specs.declared.terms.Subscriber.{Subscriber}

-- what is in force, the numbers and names of those that are served, and how many notes may be kept of a message
pub record Terms : Type 0 where
  pub in_force : InForce
  pub served : List (ℕ × List ℕ)
  pub most : ℕ

abbrev pub owned : Subscriber → ℕ × List ℕ
owned s = (s.sub, string_bytes s.name)

abbrev pub terms_of : InForce → List Served → ℕ → Terms
terms_of f served most = record { in_force = f; served = map told served; most = most }
