use Rattle.std.proofs.Common.{subst}
use Rattle.mediator_calls.specs.Mediation.{Mediation}
use Rattle.mediator_calls.specs.View.{view_of}
use Rattle.mediator_calls.specs.Calls.{Edits}
use Rattle.mediator_calls.proofs.CallLaws.{if_ok_gives, edits, kept_by, kept_edit, refused_same}
use Rattle.mediator_calls.proofs.mediator.Mediator.edit.Goals as goal

pub invariant_of-self : goal.invariant_of-self
invariant_of-self c = kept_by c.edit.result c.self.inside.state c.edit.new.self c.self.invariant c.edit.ensures.ok
    (λ x ok. kept_edit c.self.inside.state c.edit.new.self c.args.text.now x c.self.invariant (ok.goes_on c.self.inside.state.chronicle.entries c.self.invariant.stands) ok.untouched ok.journaled)
    c.edit.ensures.unchanged

pub returns-clause-ok : goal.returns-clause-ok
returns-clause-ok c = if_ok_gives c.edit.result c.edit.ensures.ok
    (λ x ok. subst (λ (m : Mediation). Edits m c.args.text.now x (view_of c.edit.new.self)) c.self.view_is
    (edits c.self.inside.state c.edit.new.self c.args.text.now x c.self.invariant.stands (ok.goes_on c.self.inside.state.chronicle.entries c.self.invariant.stands) ok.untouched ok.journaled))

pub returns-clause-unchanged : goal.returns-clause-unchanged
returns-clause-unchanged c = refused_same c.edit.result c.self.inside.state c.edit.new.self c.args.self.now c.self.invariant.stands c.self.view_is c.edit.ensures.unchanged
