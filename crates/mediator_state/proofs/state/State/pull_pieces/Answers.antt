use Rattle.std.proofs.Common.{refl, sym, ◌∙◌}
use Rattle.mediator_state.proofs.CallLaws.{same_state, same_roomed}
use Rattle.mediator_state.proofs.PullLaws.{pulls, pull_keeps, same_table, pull_fails}
use Rattle.mediator_state.proofs.state.State.pull_pieces.Goals as goal

pub returns-in-Ok-clause-ok : goal.returns-in-Ok-clause-ok
returns-in-Ok-clause-ok g c = λ h s. pulls c.args.self.now.engine c.pull_pieces.new.self h c.args.sub.0 c.args.now c.args.target c.in-Ok.pieces s.stands (sym (c.is_live.ensures.live h s.stands) ∙ c.if-not-is_live.false) c.in-Ok.ensures.ok

pub returns-in-Ok-clause-keeps : goal.returns-in-Ok-clause-keeps
returns-in-Ok-clause-keeps g c = λ h s. pull_keeps g.C.Chronicle.tells c.args.self.now c.pull_pieces.new.self h c.args.sub.0 c.args.now c.args.target c.in-Ok.pieces s (sym (c.is_live.ensures.live h s.stands) ∙ c.if-not-is_live.false) c.pull_pieces.ensures.others c.pull_pieces.ensures.served c.in-Ok.ensures.ok

pub returns-in-Err-clause-keeps : goal.returns-in-Err-clause-keeps
returns-in-Err-clause-keeps g c = λ h s. pull_fails g.C.Chronicle.tells c.args.self.now c.pull_pieces.new.self h c.in-Err.ensures.err s

pub returns-then-not-is_live-clause-unchanged : goal.returns-then-not-is_live-clause-unchanged
returns-then-not-is_live-clause-unchanged g c = same_state g.C.Chronicle.tells g.C.Chronicle.limits c.args.self.now

pub returns-in-Err-clause-unchanged : goal.returns-in-Err-clause-unchanged
returns-in-Err-clause-unchanged g c =
    same_roomed g.C.Chronicle.tells g.C.Chronicle.limits c.args.self.now c.args.self.now.chronicle (record c.args.self.now.engine { subscriptions = c.pull_pieces.new.self }) (λ h told. told) (same_table c.args.self.now.engine c.pull_pieces.new.self c.in-Err.ensures.err) refl
