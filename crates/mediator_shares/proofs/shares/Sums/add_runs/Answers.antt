use Rattle.std.proofs.Common.{◌+◌, ◌≤◌, arith}
use Rattle.mediator_shares.proofs.SharingLaws.{fewer_records, shares_step}
use Rattle.mediator_shares.proofs.shares.Sums.add_runs.Goals as goal

pub add_run-requires-clause-few : goal.add_run-requires-clause-few
add_run-requires-clause-few c =
    let l = c.runs-test.true in
    omega (arith, c.runs.invariant.0.counted, c.requires.few, fewer_records c.args.runs.now c.runs.run-index c.run-item.result _ (omega (arith, l)) c.run-item.is)

pub overflow_add-before : goal.overflow_add-before
overflow_add-before c =
    let l = c.runs-test.true in
    let few = fewer_records c.args.runs.now c.runs.run-index c.run-item.result _ (omega (arith, l)) c.run-item.is in
    let small : c.runs.before + c.len-before.result ≤ 4294967296 = omega (arith, c.runs.invariant.0.counted, c.requires.few, few, c.len-before.ensures.value) in
    omega (arith, small)

pub runs-preserved : goal.runs-preserved
runs-preserved c = (
  shares_step c.runs.judges.shares c.add_run.new.judges.shares c.runs.self.tallies.items c.add_run.new.self.tallies.items c.args.self.now.notes c.runs.self.notes c.add_run.new.self.notes c.args.domain c.args.in_force.now c.args.runs.now c.args.leaders.now c.args.served.now c.runs.run-index c.runs.before c.len-before.result
      c.run-item.result _ c.runs.invariant.0 (omega (arith, c.runs-test.true)) c.run-item.is c.len-before.ensures.value
      (record { shares = c.in_ok-add_run.ensures.shares; tallies = c.in_ok-add_run.ensures.tallies; noting = c.in_ok-add_run.ensures.notes }) c.in_ok-add_run.ensures.stay c.in_ok-add_run.ensures.stay_tallies,
  c.in_ok-add_run.ensures.judges,
)

pub returns-clause-judges : goal.returns-clause-judges
returns-clause-judges c = c.runs.invariant.1
