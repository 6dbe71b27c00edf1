use Rattle.std.proofs.Common.{rules, ◌≡◌, List, [], ℕ, refl, sym, subst}
use Rattle.flow_aggregate.specs.Groups.{Sample}
use Rattle.flow_aggregate.specs.Running.{HeldGroups, SumsStand, staying}
use Rattle.flow_aggregate.proofs.RunningLaws.{none_stay}
use Rattle.mediator_tables.specs.GroupTable.{groups_at}
use Rattle.mediator_tables.proofs.GroupTableLaws.{all_written}
use Rattle.mediator_tables.proofs.groups.RunningGroups.close.Goals as goal

pub returns-clause-stays : goal.returns-clause-stays
returns-clause-stays c q counted stands =
    all_written _ (λ (v w : HeldGroups). (cs : List Sample) → SumsStand v.groups cs → SumsStand w.groups (staying c.args.t cs)) (λ cs stood. none_stay c.args.t cs stood) _
    (λ k v b w g call. (search rules, λ cs before. search rules, search rules)) _ _ c.self.invariant c.retain.ensures.filtered q counted
    (subst (λ (es : List (ℕ × HeldGroups)). SumsStand (groups_at es q) counted) (sym c.self.view_is) stands)

pub returns-clause-ready : goal.returns-clause-ready
returns-clause-ready c q =
    all_written _ (λ (v w : HeldGroups). w.ready ≡ []) refl _ (λ k v b w g call. (search rules, search rules, search rules)) _ _ c.self.invariant c.retain.ensures.filtered q
