use Rattle.stream_meaning.proofs.Handing.{first_of}
use Rattle.stream_meaning.proofs.laws.the_first_are_handed_out.Goals as goal

pub returns : goal.returns
returns c = first_of
