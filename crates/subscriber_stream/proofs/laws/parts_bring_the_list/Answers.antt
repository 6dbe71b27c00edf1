use Rattle.subscriber_stream.proofs.CallLaws.{parts_bring}
use Rattle.subscriber_stream.proofs.laws.parts_bring_the_list.Goals as goal

pub returns : goal.returns
returns c = parts_bring
