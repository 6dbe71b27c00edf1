use Rattle.std.proofs.Common.{ap, arith}
use Rattle.std.specs.Arc.{arc_value}
use Rattle.flow_anonymize.specs.Plans.{PlansOf}
use Rattle.mediator_shares.proofs.JudgeLaws.{begun_step}
use Rattle.mediator_shares.proofs.SharingLaws.{as_share}
use Rattle.mediator_shares.proofs.judges.begin_each.Goals as goal

pub judges-preserved : goal.judges-preserved
judges-preserved c =
    begun_step (arc_value c.args.template.now) c.args.judges.now.items c.judges.judges.items c.judges.place c.index_mut.result.now (record { sub = c.index_mut.result.now.sub; plans = c.begin.new.self }) c.judges.invariant (omega (arith, c.judges-test.true, c.len-place-end.ensures, c.judges.auto.place-end, c.judges.invariant.many)) c.index_mut.ensures.value
    (ap (λ (p : PlansOf). p.for) c.in_ok-begin.ensures.ok) (ap (λ (p : PlansOf). as_share c.index_mut.result.now.sub p.given) c.in_ok-begin.ensures.ok)
