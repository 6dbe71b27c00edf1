use Rattle.std.proofs.Common.{rules, ◌≡◌, ◌∙◌, List, [], ℕ, refl, ap}
use Rattle.flow_aggregate.specs.Running.{HeldGroups}
use Rattle.mediator_tables.specs.GroupTable.{groups_at}
use Rattle.mediator_tables.proofs.GroupTableLaws.{all_written}
use Rattle.mediator_tables.proofs.groups.RunningGroups.release.Goals as goal

pub returns : goal.returns
returns c q =
    all_written _ (λ (v w : HeldGroups). w ≡ record { groups = v.groups; ready = [] }) refl _ (λ k v b w g call. (search rules, search rules, search rules)) _ _ c.self.invariant c.retain.ensures.filtered q
    ∙ ap released c.self.view_is
  where
    released : List (ℕ × HeldGroups) → HeldGroups
    released es = record { groups = groups_at es q; ready = [] }
