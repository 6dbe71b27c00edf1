use Rattle.subscriber_stream.proofs.CallLaws.{served}
use Rattle.subscriber_stream.proofs.laws.octets_of_pulls.Goals as goal

pub returns : goal.returns
returns c = served
