use Rattle.history_verify.proofs.StepLaws.{last_seen, may_where, may_not_where}
use Rattle.history_verify.proofs.replay.Replay.may_cut.Goals as goal

pub returns-then-unwrap_or-sub : goal.returns-then-unwrap_or-sub
returns-then-unwrap_or-sub c = λ h s.
    may_where h c.args.sub c.unwrap_or.result c.is_served.result
    (last_seen c.args.self.now h _ c.copied-last.result c.deref.result.now c.unwrap_or.result s c.deref.ensures.value c.last.ensures.value c.copied-last.ensures c.unwrap_or.ensures)
    c.if-unwrap_or-sub.true (c.is_served.ensures h s.over.subscribers)

pub returns-else-unwrap_or-sub : goal.returns-else-unwrap_or-sub
returns-else-unwrap_or-sub c = λ h s.
    may_not_where h c.args.sub c.unwrap_or.result
    (last_seen c.args.self.now h _ c.copied-last.result c.deref.result.now c.unwrap_or.result s c.deref.ensures.value c.last.ensures.value c.copied-last.ensures c.unwrap_or.ensures)
    c.if-unwrap_or-sub.false
