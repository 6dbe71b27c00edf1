use Rattle.std.proofs.Common.{◌≡◌, ℕ, List, map, take}
use Rattle.ipfix_template.specs.DataRecord.{DataRecord}
use Rattle.mediator_tables.specs.declared.served.Served.{Served}
use Rattle.mediator_tables.specs.SubscriptionTable.{shown}
use Rattle.mediator_shares.specs.InForce.{InForce}
use Rattle.mediator_shares.specs.Alike.{AreLed}
use Rattle.mediator_shares.specs.Sharing.{shares_of}
use Rattle.mediator_shares.proofs.shares.spread.Given as goal

abbrev pub invariant-served : goal.invariant-served
invariant-served l = (domain : ℕ) (f : InForce) (records : List DataRecord) (leaders : List Served) → map shown l.given ≡ shares_of domain f records leaders → AreLed f.policy.rules leaders l.served l.places
    → map shown l.shares.items ≡ shares_of domain f records (take l.place l.served)
