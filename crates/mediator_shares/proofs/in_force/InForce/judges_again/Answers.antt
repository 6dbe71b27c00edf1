use Rattle.std.proofs.Common.{◌<◌, List, length, slice_get, sym, ap, subst, ◌∙◌, arith}
use Rattle.std.specs.Arc.{arc_value}
use Rattle.policy_text.specs.declared.rule.Rule.{Rule}
use Rattle.mediator_shares.specs.InForce.{InForce}
use Rattle.mediator_shares.specs.Judges.{Judges, AreJudgesReady, AreFor}
use Rattle.mediator_shares.proofs.JudgeLaws.{got, ready_judges, ready_blank}
use Rattle.mediator_shares.proofs.in_force.InForce.judges_again.Goals as goal

there : (c : goal.After-remove) → c.in_ok-place.place < length c.self.inside.judges.items
there c = omega (arith, c.in_ok-place.ensures.within, ap length c.deref.ensures.value)

-- what was kept is ready
ready : (c : goal.After-remove) → AreJudgesReady c.args.self.now.policy.rules c.remove.result
ready c =
    subst (λ (rules : List Rule). AreJudgesReady rules c.remove.result) (ap (λ (f : InForce). f.policy.rules) c.self.view_is)
    (subst (AreJudgesReady (arc_value c.self.inside.revision).rules) (sym c.remove.ensures.value) (c.self.invariant c.in_ok-place.place c.remove.result (there c)))

-- and is for these
for_these : (c : goal.After-remove) → AreFor c.remove.result c.args.domain c.args.served.now
for_these c =
    c.in_ok-place.ensures.found c.remove.result
    (ap (λ (js : List Judges). slice_get js c.in_ok-place.place) c.deref.ensures.value ∙ got c.self.inside.judges.items c.in_ok-place.place c.remove.result (there c) c.remove.ensures.value)

pub returns-clause-judges : goal.returns-clause-judges
returns-clause-judges c = ready_judges c.remove.result c.args.self.now c.args.domain c.args.served.now (ready c) (for_these c)

pub returns-clause-shares : goal.returns-clause-shares
returns-clause-shares c = ready_blank c.remove.result c.args.self.now.policy.rules c.args.domain c.args.served.now (ready c) (for_these c)
