use Rattle.subscriber_stream.proofs.Standings.{stands_given, kept_given}
use Rattle.subscriber_stream.proofs.stream.Stream.push_reserved.Goals as goal

pub returns-clause-ok : goal.returns-clause-ok
returns-clause-ok c =
    rw c.push_all.ensures (record { stands = λ records p at. stands_given c.args.self.now c.args.records records p at })

pub returns-clause-limits : goal.returns-clause-limits
returns-clause-limits c = rw c.push_all.ensures (kept_given c.args.self.now c.args.records c.requires.reserved).0

pub returns-clause-spare : goal.returns-clause-spare
returns-clause-spare c = rw c.push_all.ensures (kept_given c.args.self.now c.args.records c.requires.reserved).1
