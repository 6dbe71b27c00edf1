use Rattle.std.proofs.Common.{arith, subst, sym}
use Rattle.octet_io.specs.Device.{device_inner}
use Rattle.mediator_offline.proofs.Receiving.{err_gives}
use Rattle.ipmd.specs.Serving.{MakesRun, StopsServingRuns}
use Rattle.ipmd.proofs.Running.{begins, ends_at_last, ends_early, goes_on, stops, stops_first}
use Rattle.ipmd.proofs.runs.serve_runs.Goals as goal

pub runs-init : goal.runs-init
runs-init g c = (begins c.args.service (g.O.Write.contents (device_inner c.args.output.now)) c.requires.asked, c.requires.asked.allowed)

pub returns-in_err-keeping-clause-err : goal.returns-in_err-keeping-clause-err
returns-in_err-keeping-clause-err g c =
    let held = g.O.Write.contents (device_inner c.args.output.now) in
    err_gives c.from_residual.result c.from_residual.ensures
    (λ e is. subst (λ x. StopsServingRuns x held held) (sym is) (stops_first c.args.service held c.in_err-keeping.field-0.0 c.requires.asked c.in_err-keeping.ensures.err))

pub returns-in_err-keys-clause-err : goal.returns-in_err-keys-clause-err
returns-in_err-keys-clause-err g c =
    let held = g.O.Write.contents (device_inner c.args.output.now) in
    err_gives c.from_residual-in_err-keys.result c.from_residual-in_err-keys.ensures
    (λ e is. subst (λ x. StopsServingRuns x held held) (sym is) (stops_first c.args.service held c.in_err-keys.field-0.0 c.requires.asked c.in_err-keys.ensures.err))

pub returns-in_err-serve_run-clause-err : goal.returns-in_err-serve_run-clause-err
returns-in_err-serve_run-clause-err g c =
    let held = g.O.Write.contents (device_inner c.args.output.now) in
    let between = g.O.Write.contents (device_inner c.runs.output) in
    let holds = g.O.Write.contents (device_inner c.serve_run.new.output) in
    err_gives c.from_residual-in_err-serve_run.result c.from_residual-in_err-serve_run.ensures
    (λ e is. subst (λ x. StopsServingRuns x held holds) (sym is)
    (stops c.runs.plan c.args.service.runs c.runs.run held between holds c.in_err-serve_run.field-0.0 c.runs.invariant.0 c.in_err-serve_run.ensures.err))

pub returns-then-not-branch-clause-ok : goal.returns-then-not-branch-clause-ok
returns-then-not-branch-clause-ok g c =
    ends_early c.runs.plan c.serve_run.new.plan c.args.service.runs c.runs.run c.in_ok-serve_run.field-0 (g.O.Write.contents (device_inner c.args.output.now)) (g.O.Write.contents (device_inner c.runs.output))
    (g.O.Write.contents (device_inner c.serve_run.new.output)) c.runs.invariant.0 c.in_ok-serve_run.ensures.made c.if-not-branch.true

pub returns-then-run-runs-clause-ok : goal.returns-then-run-runs-clause-ok
returns-then-run-runs-clause-ok g c =
    ends_at_last c.runs.plan c.serve_run.new.plan c.args.service.runs c.runs.run c.in_ok-serve_run.field-0 (g.O.Write.contents (device_inner c.args.output.now)) (g.O.Write.contents (device_inner c.runs.output))
    (g.O.Write.contents (device_inner c.serve_run.new.output)) c.runs.invariant.0 c.in_ok-serve_run.ensures.made c.if-run-runs.true

pub runs-preserved : goal.runs-preserved
runs-preserved g c =
    let held = g.O.Write.contents (device_inner c.args.output.now) in
    let between = g.O.Write.contents (device_inner c.runs.output) in
    let holds = g.O.Write.contents (device_inner c.serve_run.new.output) in
    let makes = subst (λ more. MakesRun more c.runs.plan c.serve_run.new.plan between holds) c.if-not-branch.false c.in_ok-serve_run.ensures.made in
    (goes_on c.runs.plan c.serve_run.new.plan c.args.service.runs c.runs.run held between holds c.runs.invariant.0 makes (omega (arith, c.if-run-runs.false)), c.runs.invariant.1)
