use Rattle.stream_meaning.proofs.Handing.{pulls_see}
use Rattle.stream_meaning.proofs.laws.pulls_see_what_was_given.Goals as goal

pub returns : goal.returns
returns c = pulls_see
