use Rattle.std.proofs.Common.{refl}
use Rattle.history_verify.proofs.SubscriberLaws.{subscribers_cut}
use Rattle.history_verify.proofs.subscribers.Subscribers.cut.Goals as goal

pub returns : goal.returns
returns c = λ h so. subscribers_cut c.args.self.now _ h c.args.sub so refl refl c.remove.ensures.keys
