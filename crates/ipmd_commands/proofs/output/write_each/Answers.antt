use Rattle.std.proofs.Common.{rules, inl, inr, subst, sym}
use Rattle.ipmd_commands.specs.declared.failure.Place.TheVariants.{Output}
use Rattle.ipmd_commands.specs.Failures.{FailedAt}
use Rattle.octet_io.specs.Device.{device_inner}
use Rattle.mediator_offline.proofs.Receiving.{err_gives}
use Rattle.ipmd_commands.proofs.Lines.{some_lines, line_begun}
use Rattle.ipmd_commands.proofs.output.write_each.Goals as goal

pub returns-in_err-line-clause-err : goal.returns-in_err-line-clause-err
returns-in_err-line-clause-err g c =
    let held = g.O.Write.contents (device_inner c.args.output.now) in
    let now = g.O.Write.contents (device_inner c.messages.output) in
    err_gives c.from_residual.result c.from_residual.ensures (λ e is. (inl is, some_lines held now c.args.messages.now c.messages.message-index c.messages.invariant))

pub returns-in_err-put_text-clause-err : goal.returns-in_err-put_text-clause-err
returns-in_err-put_text-clause-err g c =
    let held = g.O.Write.contents (device_inner c.args.output.now) in
    let now = g.O.Write.contents (device_inner c.messages.output) in
    let after = g.O.Write.contents (device_inner c.put_text.new.output) in
    err_gives c.from_residual-in_err-put_text.result c.from_residual-in_err-put_text.ensures
    (λ e is. (
      inr (subst (FailedAt Output) (sym is) c.in_err-put_text.ensures.err.0),
      line_begun held now after c.args.messages.now c.messages.message-index c.message-item.result c.as_str.result.now
          (search rules) c.message-item.is (search rules) c.messages.invariant c.in_err-put_text.ensures.err.1,
    ))
