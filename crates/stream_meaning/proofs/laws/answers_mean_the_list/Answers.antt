use Rattle.stream_meaning.proofs.Handing.{answers_mean}
use Rattle.stream_meaning.proofs.laws.answers_mean_the_list.Goals as goal

pub returns : goal.returns
returns c = answers_mean
