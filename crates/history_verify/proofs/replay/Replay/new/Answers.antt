use Rattle.std.proofs.Common.{refl}
use Rattle.history_verify.proofs.StepLaws.{stands_new}
use Rattle.history_verify.proofs.replay.Replay.new.Goals as goal

pub returns : goal.returns
returns c = record { wanted = c.new-4.ensures.wanted; stands = stands_new _ c.new-4.ensures.none c.new-5.ensures.items refl c.in_ok-nothing.ensures c.new.ensures c.new-2.ensures c.new-3.ensures }
