use Rattle.subscriber_stream.proofs.Standings.{stands_at_start}
use Rattle.subscriber_stream.proofs.stream.Stream.hashed.Goals as goal

pub returns-clause-stands : goal.returns-clause-stands
returns-clause-stands c = rw (c.new.ensures, c.new-2.ensures.items) stands_at_start
