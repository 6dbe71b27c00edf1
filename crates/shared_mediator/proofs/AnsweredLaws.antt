-- Where the count has no room, the pull that it refuses isn't accepted.
use Rattle.std.proofs.Common.{arith}
use Rattle.shared_mediator.specs.Answered.{FullCountRefusesPull}

pub pull_refused : FullCountRefusesPull
pull_refused c new sub now target answer full accepted = absurd (omega (arith, full.1, accepted.room))
