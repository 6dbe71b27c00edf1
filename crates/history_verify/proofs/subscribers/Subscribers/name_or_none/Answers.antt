use Rattle.std.proofs.Common.{sym}
use Rattle.history_verify.proofs.subscribers.Subscribers.name_or_none.Goals as goal

pub returns-in-None : goal.returns-in-None
returns-in-None c = λ h so. sym (c.in-None.ensures.none h so).nameless
