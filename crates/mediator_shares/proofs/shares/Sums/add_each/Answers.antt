use Rattle.std.proofs.Common.{◌<◌, ◌+◌, length, refl, arith}
use Rattle.mediator_shares.specs.Adding.{counted_of}
use Rattle.mediator_shares.proofs.StretchLaws.{counted_start, counted_step}
use Rattle.mediator_shares.proofs.shares.Sums.add_each.Goals as goal

pub records-init : goal.records-init
records-init c = (
  counted_start c.args.self.now.tallies.items c.args.self.now.notes c.args.domain c.args.in_force.now (c.args.before + c.args.from) c.args.run.now c.args.from c.args.leaders.now c.args.served.now c.requires.each_tally,
  omega arith,
)

pub records-preserved : goal.records-preserved
records-preserved c =
    let l : c.records.place < length c.args.run.now.texts = omega (arith, c.records-test.true, c.requires.within, c.records.auto.place-end) in (
      counted_step (counted_of c.args.self.now.tallies.items c.args.self.now.notes) (counted_of c.records.self.tallies.items c.records.self.notes) (counted_of c.add_record.new.self.tallies.items c.add_record.new.self.notes)
          c.args.domain c.args.in_force.now c.args.before (c.args.before + c.records.place) c.args.run.now c.args.from c.records.place c.args.leaders.now c.args.served.now c.view.result
          c.records.invariant.0 c.records.invariant.1 l c.view.ensures refl c.in_ok-add_record.ensures,
      omega (arith, c.records.invariant.1),
    )
