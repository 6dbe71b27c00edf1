use Rattle.std.proofs.Common.{arith}
use Rattle.flow_anonymize.proofs.OutputLaws.{add_one}
use Rattle.flow_anonymize.proofs.output.Output.add_all.Goals as goal

pub records-preserved : goal.records-preserved
records-preserved c = (
  add_one c.args.plan.now c.args.self.now c.records.self c.add.new.self c.args.run.now c.args.from c.records.place c.view.result
      c.records.invariant.0 c.records.invariant.1 (omega (arith, c.records-test.true, c.requires.within, c.records.auto.place-end)) c.view.ensures c.in_ok-add.ensures,
  omega (arith, c.records.invariant.1),
)
