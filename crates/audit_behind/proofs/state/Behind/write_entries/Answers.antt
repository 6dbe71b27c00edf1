use Rattle.std.proofs.Common.{rules}
use Rattle.mediator_offline.specs.Lines.{audit_text}
use Rattle.audit_behind.proofs.RecordingLaws.{writes_all}
use Rattle.audit_behind.proofs.state.Behind.write_entries.Goals as goal

-- all entries were gathered before the thread was found to have stopped
pub returns-clause-err : goal.returns-clause-err
returns-clause-err g c =
    writes_all c.args.self c.gather.new.self c.hand_over.new.self c.stopped.result (audit_text c.args.entries.items) (search rules) (search rules) c.stopped.ensures
