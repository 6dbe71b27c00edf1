use Rattle.std.proofs.Common.{arith}
use Rattle.shared_mediator.proofs.ClosingLaws.{mismatch}
use Rattle.shared_mediator.proofs.closing.mark_admins.Goals as goal

pub returns-in-Err-clause-names : goal.returns-in-Err-clause-names
returns-in-Err-clause-names g c few handles marked first =
    mismatch c.args.marks.now.from c.loop-admin.marks.from c.loop-admin.handle c.in-Err.position c.args.journal.now.entries handles c.args.admins.now c.loop-admin.admin-index c.admin-item.result c.kept.result.now
    c.loop-admin-test.true c.admin-item.is c.kept.ensures.value c.loop-admin.invariant.0 (omega (arith, c.loop-admin.invariant.3 few, first)) (c.in-Err.ensures.first _ (c.loop-admin.invariant.1 handles marked))
