use Rattle.std.proofs.Common.{[], ◌∙◌, inl, inr, refl, subst, sym, true≢false}
use Rattle.octet_io.specs.Device.{device_inner}
use Rattle.ipmd_commands.specs.declared.fault.Fault.TheVariants.{OutOfMemory}
use Rattle.mediator_offline.proofs.Receiving.{err_gives}
use Rattle.ipmd.specs.Serving.{IsPlanOf, StopsRun, policy_after, run_of}
use Rattle.ipmd.proofs.Running.{told_all}
use Rattle.ipmd.proofs.runs.serve_run.Goals as goal
use Rattle.ipmd.proofs.runs.serve_run.Goals.{then-more+in_ok-renew_policy, else-more}

pub returns-in_err-journal-clause-err : goal.returns-in_err-journal-clause-err
returns-in_err-journal-clause-err g c =
    let held = g.O.Write.contents (device_inner c.args.output.now) in
    let holds = g.O.Write.contents (device_inner c.end_run.new.output) in
    err_gives c.from_residual-in_err-journal.result c.from_residual-in_err-journal.ensures
    (λ e is. subst (λ x. StopsRun x c.args.plan.now held holds) (sym is) (inr (run_of c.in_ok-ended.ended, c.in_ok-ended.ensures.served, c.in_err-journal.ensures.err)))

pub returns-in_err-renew_policy-clause-err : goal.returns-in_err-renew_policy-clause-err
returns-in_err-renew_policy-clause-err g c =
    let held = g.O.Write.contents (device_inner c.args.output.now) in
    let holds = g.O.Write.contents (device_inner c.end_run.new.output) in
    let made = run_of c.in_ok-ended.ended in
    err_gives c.from_residual-in_err-renew_policy.result c.from_residual-in_err-renew_policy.ensures
    (λ e is. subst (λ x. StopsRun x c.args.plan.now held holds) (sym is) (inr (made, c.in_ok-ended.ensures.served, told_all OutOfMemory made held holds ([], inl refl) c.in_ok-journal.ensures.told)))

pub returns-clause-made : goal.returns-clause-made
returns-clause-made g c = record {
  made = run_of c.in_ok-ended.ended;
  is_served = c.in_ok-ended.ensures.served;
  told = c.in_ok-journal.ensures.told;
  more_is = c.is_followed-more.ensures;
  renewed = elim c.if-more.branch [
    | then-more+in_ok-renew_policy w ↦ λ is asked policy plan. rw w.plan-is (subst (λ h. IsPlanOf asked (policy_after policy h) w.renew_policy.new.plan) c.in_ok-journal.ensures.journal (w.in_ok-renew_policy.ensures asked policy plan))
    | else-more w ↦ λ is. absurd (true≢false (sym is ∙ w.if-more.false))
  ];
}
