use Rattle.std.proofs.Common.{sym, ◌∙◌}
use Rattle.history_verify.proofs.StepLaws.{sums_ended, taken_unsubscribe}
use Rattle.history_verify.proofs.replay.Replay.unsubscribe.Goals as goal

pub returns-clause-ok : goal.returns-clause-ok
returns-clause-ok c = λ h s none. taken_unsubscribe c.args.self.now c.end.new.self c.remove_one.new.self h c.args.sub s none (sym (c.is_live.ensures h s.over.subscribers) ∙ c.if-not-is_live.false)
    (c.end.ensures h s.over.subscribers (sym (c.is_live.ensures h s.over.subscribers) ∙ c.if-not-is_live.false)) (sums_ended c.args.self.now c.remove_one.new.self h c.args.sub s none c.remove_one.ensures.gone)
