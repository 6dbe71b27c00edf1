use Rattle.std.proofs.Common.{map, refl, rules, subst, sym}
use Rattle.octet_io.specs.Device.{device_inner}
use Rattle.mediator_offline.proofs.Receiving.{err_gives}
use Rattle.ipmd.specs.Serving.{FailsToServe}
use Rattle.ipmd_commands.specs.Runs.{RefusesToFilter}
use Rattle.ipmd_verify.specs.Verifying.{RefusesToVerifyFile}
use Rattle.ipmd_explain.specs.Answers.{RefusesToExplainFile}
use Rattle.ipmd.proofs.Endings.{unexplained, unfiltered, unserved, unverified}
use Rattle.ipmd.proofs.run.Goals.{in-CheckPolicy+in_ok-check_policy-in-CheckPolicy, in-Replay+in_ok-replay-in-Replay, in-Serve+in_ok-serve-in-Serve, in-Verify+in_ok-verify-in-Verify, in-Explain+in_ok-explain-in-Explain, in-Show+in_ok-show-in-Show+in-Some-1, in-Show+in_ok-show-in-Show+in-None-1}
use Rattle.ipmd.proofs.run.Goals as goal

pub returns-in_err-serve-in-Serve-clause-err : goal.returns-in_err-serve-in-Serve-clause-err
returns-in_err-serve-in-Serve-clause-err g c =
    let held = g.O.Write.contents (device_inner c.args.output.now) in
    let holds = g.O.Write.contents (device_inner c.serve.new.output) in
    err_gives c.from_residual-in_err-serve-in-Serve.result c.from_residual-in_err-serve-in-Serve.ensures
    (λ e is. unserved (map g.S.AsStr.text c.args.words.now) c.in-Serve.path e (g.I.Read.remaining c.args.input) held holds c.args.errors.now c.serve.new.errors
    (rw c.in-Serve.is at c.in_ok-options.ensures.asked)
    (subst (λ x. FailsToServe c.in-Serve.path.now x held holds c.args.errors.now c.serve.new.errors) (sym is) c.in_err-serve-in-Serve.ensures.err))

pub returns-in_err-filter-in-Offline-clause-err : goal.returns-in_err-filter-in-Offline-clause-err
returns-in_err-filter-in-Offline-clause-err g c =
    let given = g.I.Read.remaining c.args.input in
    let held = g.O.Write.contents (device_inner c.args.output.now) in
    let holds = g.O.Write.contents (device_inner c.filter.new.output) in
    err_gives c.from_residual-in_err-filter-in-Offline.result c.from_residual-in_err-filter-in-Offline.ensures
    (λ e is. unfiltered (map g.S.AsStr.text c.args.words.now) c.in-Offline.options e given held holds c.args.errors.now c.args.errors.now refl
    (rw c.in-Offline.is at c.in_ok-options.ensures.asked)
    (subst (λ x. RefusesToFilter c.in-Offline.options x given held holds) (sym is) c.in_err-filter-in-Offline.ensures.err))

pub returns-in_err-verify-in-Verify-clause-err : goal.returns-in_err-verify-in-Verify-clause-err
returns-in_err-verify-in-Verify-clause-err g c =
    let given = g.I.Read.remaining c.args.input in
    let held = g.O.Write.contents (device_inner c.args.output.now) in
    let holds = g.O.Write.contents (device_inner c.verify.new.output) in
    err_gives c.from_residual-in_err-verify-in-Verify.result c.from_residual-in_err-verify-in-Verify.ensures
    (λ e is. unverified (map g.S.AsStr.text c.args.words.now) c.in-Verify.options e given held holds c.args.errors.now c.args.errors.now refl
    (rw c.in-Verify.is at c.in_ok-options.ensures.asked)
    (subst (λ x. RefusesToVerifyFile c.in-Verify.options x held holds) (sym is) c.in_err-verify-in-Verify.ensures.err))

pub returns-in_err-explain-in-Explain-clause-err : goal.returns-in_err-explain-in-Explain-clause-err
returns-in_err-explain-in-Explain-clause-err g c =
    let given = g.I.Read.remaining c.args.input in
    let held = g.O.Write.contents (device_inner c.args.output.now) in
    let holds = g.O.Write.contents (device_inner c.explain.new.output) in
    err_gives c.from_residual-in_err-explain-in-Explain.result c.from_residual-in_err-explain-in-Explain.ensures
    (λ e is. unexplained (map g.S.AsStr.text c.args.words.now) c.in-Explain.options e given held holds c.args.errors.now c.args.errors.now refl
    (rw c.in-Explain.is at c.in_ok-options.ensures.asked)
    (subst (λ x. RefusesToExplainFile c.in-Explain.options x held holds) (sym is) c.in_err-explain-in-Explain.ensures.err))

pub returns-clause-ok : goal.returns-clause-ok
returns-clause-ok g c = elim c.match-branch-2.branch [
  | in-CheckPolicy+in_ok-check_policy-in-CheckPolicy w ↦ rw (w.output-is, w.errors-is) (search rules)
  | in-Replay+in_ok-replay-in-Replay w ↦ rw (w.output-is, w.errors-is) (search rules)
  | in-Serve+in_ok-serve-in-Serve w ↦ rw (w.output-is, w.errors-is) (search rules)
  | in-Verify+in_ok-verify-in-Verify w ↦ rw (w.output-is, w.errors-is) (search rules)
  | in-Explain+in_ok-explain-in-Explain w ↦ rw (w.output-is, w.errors-is) (search rules)
  | in-Show+in_ok-show-in-Show+in-Some-1 w ↦ rw (w.output-is, w.errors-is) (search rules)
  | in-Show+in_ok-show-in-Show+in-None-1 w ↦ rw (w.output-is, w.errors-is) (search rules)
]
