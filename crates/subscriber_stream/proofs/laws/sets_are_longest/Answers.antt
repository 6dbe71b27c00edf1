use Rattle.subscriber_stream.proofs.SetLaws.{are_sets, are_these}
use Rattle.subscriber_stream.proofs.laws.sets_are_longest.Goals as goal

pub returns : goal.returns
returns c = λ ps sets. (are_sets ps sets, are_these ps sets)
