use Rattle.std.proofs.Common.{subst}
use Rattle.mediator_calls.specs.Mediation.{Mediation}
use Rattle.mediator_calls.specs.View.{view_of}
use Rattle.mediator_calls.specs.Sound.{IsSoundMediation}
use Rattle.mediator_calls.proofs.CallLaws.{is_sound}
use Rattle.mediator_calls.proofs.mediator.Mediator.journal.Goals as goal

pub returns-clause-sound : goal.returns-clause-sound
returns-clause-sound c = subst IsSoundMediation c.self.view_is (is_sound c.self.inside.state c.self.invariant)
