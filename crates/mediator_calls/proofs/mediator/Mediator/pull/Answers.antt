use Rattle.std.proofs.Common.{subst}
use Rattle.mediator_calls.specs.Mediation.{Mediation}
use Rattle.mediator_calls.specs.View.{view_of}
use Rattle.mediator_calls.specs.Calls.{Pulls}
use Rattle.mediator_calls.proofs.CallLaws.{if_ok_gives, pulls, kept_by, kept_pull, refused_same}
use Rattle.mediator_calls.proofs.mediator.Mediator.pull.Goals as goal

pub invariant_of-self : goal.invariant_of-self
invariant_of-self c = kept_by c.pull.result c.self.inside.state c.pull.new.self c.self.invariant c.pull.ensures.ok
    (λ x ok. kept_pull c.self.inside.state c.pull.new.self c.args.sub.0 c.args.now c.args.target x c.self.invariant c.pull.ensures.keeps c.ranges.now.fits c.ranges.target.fits (ok c.self.inside.state.chronicle.entries c.self.invariant.stands) c.pull.ensures.others c.pull.ensures.drained c.pull.ensures.limits c.pull.ensures.audit_limit c.pull.ensures.journaled)
    c.pull.ensures.unchanged

pub returns-clause-ok : goal.returns-clause-ok
returns-clause-ok c = if_ok_gives c.pull.result c.pull.ensures.ok
    (λ x ok. subst (λ (m : Mediation). Pulls m c.args.sub.0 c.args.now c.args.target x (view_of c.pull.new.self)) c.self.view_is
    (pulls c.self.inside.state c.pull.new.self c.args.sub.0 c.args.now c.args.target x c.self.invariant.stands c.pull.ensures.keeps c.ranges.now.fits c.ranges.target.fits (ok c.self.inside.state.chronicle.entries c.self.invariant.stands) c.pull.ensures.others c.pull.ensures.drained c.pull.ensures.limits c.pull.ensures.audit_limit c.pull.ensures.journaled))

pub returns-clause-unchanged : goal.returns-clause-unchanged
returns-clause-unchanged c = refused_same c.pull.result c.self.inside.state c.pull.new.self c.args.self.now c.self.invariant.stands c.self.view_is c.pull.ensures.unchanged
