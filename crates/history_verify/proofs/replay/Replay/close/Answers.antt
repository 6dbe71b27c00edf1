use Rattle.std.proofs.Common.{sym, ◌∙◌}
use Rattle.history_verify.proofs.StepLaws.{taken_close}
use Rattle.history_verify.proofs.replay.Replay.close.Goals as goal

pub returns-clause-ok : goal.returns-clause-ok
returns-clause-ok c = λ h s none. taken_close c.args.self.now c.close.new.self h c.args.session s none (sym (c.is_open.ensures h s.over.exporters) ∙ c.if-not-is_open.false) (c.close.ensures h s.over.exporters)
