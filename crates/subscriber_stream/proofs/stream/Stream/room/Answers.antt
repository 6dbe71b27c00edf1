use Rattle.subscriber_stream.proofs.Standings.{room_is_limits}
use Rattle.subscriber_stream.proofs.stream.Stream.room.Goals as goal

pub returns-clause-exact : goal.returns-clause-exact
returns-clause-exact c =
    λ given_before p at.
    let same = room_is_limits c.args.self.now given_before p c.args.records.now at in
    (λ yes. same.0 (c.has_room.ensures.0 yes), λ fits. c.has_room.ensures.1 (same.1 fits))
