use Rattle.mediator_state.proofs.AscendLaws.{cuts_ascend}
use Rattle.mediator_state.proofs.laws.cuts_ascend.Goals as goal

pub returns : goal.returns
returns c = cuts_ascend
