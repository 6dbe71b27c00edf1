use Rattle.std.proofs.Common.{◌∙◌}
use Rattle.mediator_history.specs.Auditing.{audit_list}
use Rattle.mediator_state.proofs.CallLaws.{if_ok_gives}
use Rattle.mediator_state.proofs.PullLaws.{drain_stands, counted_none}
use Rattle.mediator_state.proofs.state.State.drain_audit.Goals as goal

pub returns-clause-ok : goal.returns-clause-ok
returns-clause-ok g c = if_ok_gives c.drain.result c.drain.ensures.stands
    (λ out drains h so.
    let got = drains (audit_list h) so.stands.audit in
    (λ keeps. got.0 (c.drain.ensures.kept ∙ keeps), record { told = so.told; stands = drain_stands c.args.self.now.engine c.drain.new.self h so.stands got.1 }))

pub returns-clause-counted : goal.returns-clause-counted
returns-clause-counted g c = if_ok_gives c.drain.result c.drain.ensures.oldest
    (λ out is counted. is ∙ counted_none c.args.most c.args.self.now.engine.audit.standing.entries (c.drain.ensures.kept ∙ counted))
