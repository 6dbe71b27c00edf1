-- Where the count has no room, the pull that it refuses isn't accepted.
use Rattle.std.specs.Prelude.{ℕ, Option}
use Rattle.mediator_state.specs.declared.fault.Fault.TheVariants.{HandedFull}
use Rattle.shared_mediator.specs.declared.handed.Handed.{Handed}
use Rattle.shared_mediator.specs.Counted.{CountedMediation}
use Rattle.shared_mediator.specs.Handing.{HandsOut, RefusesHanding}

-- a pull for which the count has no room
abbrev pub FullCountRefusesPull : Type 0
FullCountRefusesPull = (c new : CountedMediation) (sub now target : ℕ) (answer : Option Handed) → RefusesHanding HandedFull c sub → HandsOut c sub now target answer new → ⊥
