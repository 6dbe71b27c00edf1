use Rattle.std.proofs.Common.{subst}
use Rattle.mediator_calls.specs.Mediation.{Mediation}
use Rattle.mediator_calls.specs.View.{view_of}
use Rattle.mediator_calls.specs.Calls.{Pulls}
use Rattle.mediator_calls.proofs.CallLaws.{if_ok_gives, pulls, kept_by, kept_pull, refused_same}
use Rattle.mediator_calls.proofs.mediator.Mediator.pull_pieces.Goals as goal

pub invariant_of-self : goal.invariant_of-self
invariant_of-self c = kept_by c.pull_pieces.result c.self.inside.state c.pull_pieces.new.self c.self.invariant c.pull_pieces.ensures.ok
    (λ x ok. kept_pull c.self.inside.state c.pull_pieces.new.self c.args.sub.0 c.args.now c.args.target x c.self.invariant c.pull_pieces.ensures.keeps c.ranges.now.fits c.ranges.target.fits (ok c.self.inside.state.chronicle.entries c.self.invariant.stands) c.pull_pieces.ensures.others c.pull_pieces.ensures.drained c.pull_pieces.ensures.limits c.pull_pieces.ensures.audit_limit c.pull_pieces.ensures.journaled)
    c.pull_pieces.ensures.unchanged

pub returns-clause-ok : goal.returns-clause-ok
returns-clause-ok c = if_ok_gives c.pull_pieces.result c.pull_pieces.ensures.ok
    (λ x ok. subst (λ (m : Mediation). Pulls m c.args.sub.0 c.args.now c.args.target x (view_of c.pull_pieces.new.self)) c.self.view_is
    (pulls c.self.inside.state c.pull_pieces.new.self c.args.sub.0 c.args.now c.args.target x c.self.invariant.stands c.pull_pieces.ensures.keeps c.ranges.now.fits c.ranges.target.fits (ok c.self.inside.state.chronicle.entries c.self.invariant.stands) c.pull_pieces.ensures.others c.pull_pieces.ensures.drained c.pull_pieces.ensures.limits c.pull_pieces.ensures.audit_limit c.pull_pieces.ensures.journaled))

pub returns-clause-unchanged : goal.returns-clause-unchanged
returns-clause-unchanged c = refused_same c.pull_pieces.result c.self.inside.state c.pull_pieces.new.self c.args.self.now c.self.invariant.stands c.self.view_is c.pull_pieces.ensures.unchanged
