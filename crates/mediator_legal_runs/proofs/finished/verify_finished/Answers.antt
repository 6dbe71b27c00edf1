use Rattle.mediator_legal_runs.proofs.RunLaws.{never_told}
use Rattle.mediator_legal_runs.proofs.finished.verify_finished.Goals as goal

pub unreachable-requires : goal.unreachable-requires
unreachable-requires c =
    never_told c.args.finished.now.journal.entries c.in-Err-BadHistory.field-0 c.in-Err-BadHistory.field-0-0 c.requires.legal c.in-Err-BadHistory.ensures.err c.in-Err-BadHistory.field-0-is
