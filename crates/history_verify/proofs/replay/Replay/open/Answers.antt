use Rattle.history_verify.proofs.StepLaws.{taken_open}
use Rattle.history_verify.proofs.FeedLaws.{where_true}
use Rattle.history_verify.proofs.replay.Replay.open.Goals as goal

pub returns-clause-ok : goal.returns-clause-ok
returns-clause-ok c = λ h s none. taken_open c.args.self.now c.open.new.self h c.args.session s none (where_true c.is_next.result c.is_next.ensures c.if-not-is_next.false) (c.in_ok-open.ensures.ok h s.over.exporters)
