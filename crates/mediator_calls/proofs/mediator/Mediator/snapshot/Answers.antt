use Rattle.std.proofs.Common.{ap, ◌∙◌, subst}
use Rattle.event_journal.specs.declared.entry.Entry.{Entry}
use Rattle.mediator_state.specs.Calls.{IsSnapshot, RefusesSnapshot}
use Rattle.mediator_calls.specs.Mediation.{Mediation}
use Rattle.mediator_calls.proofs.CallLaws.{if_ok_gives, if_err_gives, kept_same, same_on}
use Rattle.mediator_calls.proofs.mediator.Mediator.snapshot.Goals as goal

pub invariant_of-self : goal.invariant_of-self
invariant_of-self c = kept_same c.self.inside.state c.snapshot.new.self c.self.invariant c.snapshot.ensures.unchanged

pub returns-clause-ok : goal.returns-clause-ok
returns-clause-ok c = if_ok_gives c.snapshot.result c.snapshot.ensures.ok
    (λ x ok. subst (λ (m : Mediation). IsSnapshot m.history c.args.session.0 x) c.self.view_is (ok c.self.inside.state.chronicle.entries c.self.invariant.stands))

pub returns-clause-unchanged : goal.returns-clause-unchanged
returns-clause-unchanged c = same_on c.self.inside.state c.snapshot.new.self c.self.invariant.stands c.snapshot.ensures.unchanged ∙ c.self.view_is

pub returns-clause-err : goal.returns-clause-err
returns-clause-err c = if_err_gives c.snapshot.result c.snapshot.ensures.err
    (λ e refused. subst (λ (m : Mediation). RefusesSnapshot e m.history c.args.session.0) c.self.view_is (refused c.self.inside.state.chronicle.entries c.self.invariant.stands))
