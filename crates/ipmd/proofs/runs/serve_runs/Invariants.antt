use Rattle.std.proofs.Common.{◌-◌}
use Rattle.octet_io.specs.Device.{device_inner}
use Rattle.mediator_calls.specs.Limited.{AreAllowed}
use Rattle.ipmd.specs.Serving.{IsToRun}
use Rattle.ipmd.proofs.runs.serve_runs.Given as goal

abbrev pub invariant-runs : goal.invariant-runs
invariant-runs g l =
    IsToRun l.plan l.runs l.run (g.O.Write.contents (device_inner l.fn.output)) (g.O.Write.contents (device_inner l.output)) × AreAllowed l.limits

abbrev pub decreases-runs : goal.decreases-runs
decreases-runs g l = l.runs - l.run
