use Rattle.subscriber_stream.proofs.ShapeLaws.{shapes_on}
use Rattle.subscriber_stream.proofs.laws.shapes_go_on.Goals as goal

pub returns : goal.returns
returns c = shapes_on
