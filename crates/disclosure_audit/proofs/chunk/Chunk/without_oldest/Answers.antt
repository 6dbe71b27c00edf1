use Rattle.std.proofs.Common.{◌+◌, sym, ap, ◌∙◌, map, drop, append-nil}
use Rattle.std.proofs.lemmas.List.{drop-drop, drop-map}
use Rattle.disclosure_audit.specs.Queue.{stamp}
use Rattle.disclosure_audit.proofs.chunk.Chunk.without_oldest.Goals as goal

pub returns-in-Message-clause-left : goal.returns-in-Message-clause-left
returns-in-Message-clause-left c =
    rw c.in-Message.is
    (append-nil (map (stamp c.in-Message.position) (drop (c.in-Message.drained + c.args.most) c.in-Message.notes))
    ∙ ap (map (stamp c.in-Message.position)) (sym (drop-drop c.args.most c.in-Message.drained c.in-Message.notes))
    ∙ sym (drop-map (stamp c.in-Message.position) c.args.most (drop c.in-Message.drained c.in-Message.notes)))
