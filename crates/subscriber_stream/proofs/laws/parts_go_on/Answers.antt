use Rattle.subscriber_stream.proofs.CallLaws.{parts_more}
use Rattle.subscriber_stream.proofs.laws.parts_go_on.Goals as goal

pub returns : goal.returns
returns c = parts_more
