use Rattle.std.proofs.Common.{sym, ap, ◌∙◌}
use Rattle.std.specs.Prelude.{Ok}
use Rattle.mediator_shares.specs.InForce.{InForce}
use Rattle.history_verify.proofs.StepLaws.{taken_edit}
use Rattle.history_verify.proofs.replay.Replay.edit.Goals as goal

pub returns-clause-ok : goal.returns-clause-ok
returns-clause-ok c = λ h s none. taken_edit c.args.self.now c.in_ok-self.field-0 h c.args.text.now s none
    (c.in_ok-policy.ensures.ok ∙ ap (λ (f : InForce). Ok f.policy) (sym c.in_ok-self.ensures)) (ap (λ (f : InForce). f.clock) c.in_ok-self.ensures ∙ c.clock.ensures)
