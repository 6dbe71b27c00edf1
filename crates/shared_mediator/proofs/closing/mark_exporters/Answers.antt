use Rattle.std.proofs.Common.{[]}
use Rattle.shared_mediator.proofs.ClosingLaws.{exporters_mismatch}
use Rattle.shared_mediator.proofs.closing.mark_exporters.Goals as goal

pub returns-in-Err-clause-names : goal.returns-in-Err-clause-names
returns-in-Err-clause-names g c none =
    exporters_mismatch c.args.marks.now.from c.loop-exporter.marks.from c.loop-exporter.handle c.in-Err.position c.args.journal.now.entries c.args.exporters.now c.loop-exporter.exporter-index c.exporter-item.result c.kept.result.now
    c.loop-exporter-test.true c.exporter-item.is c.kept.ensures.value c.loop-exporter.invariant.0 c.loop-exporter.invariant.3 (c.in-Err.ensures.first _ (c.loop-exporter.invariant.1 [] none))
