use Rattle.subscriber_stream.proofs.CallLaws.{shapes_equal}
use Rattle.subscriber_stream.proofs.laws.one_shape.Goals as goal

pub returns : goal.returns
returns c = shapes_equal
