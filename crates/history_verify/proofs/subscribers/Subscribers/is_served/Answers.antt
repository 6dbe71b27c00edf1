use Rattle.std.proofs.Common.{◌∙◌}
use Rattle.history_verify.proofs.SubscriberLaws.{is_among}
use Rattle.history_verify.proofs.subscribers.Subscribers.is_served.Goals as goal

pub returns : goal.returns
returns c = λ h so. c.contains.ensures ∙ is_among c.args.self.now h c.args.sub so
