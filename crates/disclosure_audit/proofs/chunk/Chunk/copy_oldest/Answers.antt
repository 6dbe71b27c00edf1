use Rattle.std.proofs.Common.{drop}
use Rattle.std.proofs.lemmas.List.{take-map}
use Rattle.disclosure_audit.specs.Queue.{stamp}
use Rattle.disclosure_audit.proofs.chunk.Chunk.copy_oldest.Goals as goal

pub returns-in-Message-clause-copied : goal.returns-in-Message-clause-copied
returns-in-Message-clause-copied c =
    rw (c.in-Message.is, take-map (stamp c.in-Message.position) c.args.most (drop c.in-Message.drained c.in-Message.notes)) c.copy_part.ensures.copied
