use Rattle.std.proofs.Common.{rules, ◌≡◌, ◌⊎◌, refl, inl, inr, sym, subst}
use Rattle.std.proofs.lemmas.Result.{IfErr-weaker, IfOk-weaker}
use Rattle.octet_io.specs.Device.{device_inner}
use Rattle.mediator_offline.proofs.Receiving.{err_gives}
use Rattle.ipmd_commands.specs.declared.fault.Fault.{Fault}
use Rattle.ipmd_commands.specs.declared.fault.Fault.TheVariants.{OutOfMemory}
use Rattle.ipmd_commands.specs.Runs.{IsWriteFault}
use Rattle.ipmd_commands.proofs.Naming.{not_written}
use Rattle.ipmd_commands.proofs.Inputs.{ends_over, fails_lines, finishes_lines, whole_lines}
use Rattle.ipmd_commands.proofs.filtering.filter_to_lines.Goals as goal

pub returns-clause-ok : goal.returns-clause-ok
returns-clause-ok g c =
    let held = g.O.Write.contents (device_inner c.args.output.now) in
    let holds = g.O.Write.contents (device_inner c.write_lines.new.output) in
    IfOk-weaker c.filter_octets-report.result _ _
    (λ report done. finishes_lines c.args.job.now report c.args.octets.now c.as_slice.result.now _ _ held holds _ _
    (search rules)
    (search rules)
    done c.in_ok-write_lines.ensures.ok)
    c.filter_octets-report.ensures.ok

pub returns-in_err-write_lines-clause-err : goal.returns-in_err-write_lines-clause-err
returns-in_err-write_lines-clause-err g c =
    err_gives c.from_residual.result c.from_residual.ensures
    (λ e is. inr (
      subst (λ (x : Fault). (x ≡ OutOfMemory) ⊎ IsWriteFault x) (sym is) (not_written c.in_err-write_lines.field-0.0 c.in_err-write_lines.ensures.err.0),
      record {
        stream = c.as_slice.result.now;
        ends = ends_over c.args.job.now c.args.octets.now c.as_slice.result.now c.filter_octets-report.result _ _ _ _ (search rules) (search rules) c.filter_octets-report.ensures.ok c.filter_octets-report.ensures.err;
        lines = c.in_err-write_lines.ensures.err.1;
      },
    ))

pub returns-then-out_of_memory-clause-err : goal.returns-then-out_of_memory-clause-err
returns-then-out_of_memory-clause-err g c =
    inr (
      inl refl,
      record {
        stream = c.as_slice.result.now;
        ends = ends_over c.args.job.now c.args.octets.now c.as_slice.result.now c.filter_octets-report.result _ _ _ _ (search rules) (search rules) c.filter_octets-report.ensures.ok c.filter_octets-report.ensures.err;
        lines = whole_lines c.as_slice.result.now _ _ c.in_ok-write_lines.ensures.ok;
      },
    )

pub returns-clause-err : goal.returns-clause-err
returns-clause-err g c =
    IfErr-weaker c.filter_octets-report.result _ _
    (λ e fails. fails_lines c.args.job.now e c.args.octets.now c.as_slice.result.now _ _ _ _ _ _ (search rules) (search rules)
    (ends_over c.args.job.now c.args.octets.now c.as_slice.result.now c.filter_octets-report.result _ _ _ _ (search rules) (search rules) c.filter_octets-report.ensures.ok c.filter_octets-report.ensures.err)
    c.in_ok-write_lines.ensures.ok fails)
    c.filter_octets-report.ensures.err
