use Rattle.std.proofs.Common.{rules, ◌≡◌, ◌∙◌, not, inr}
use Rattle.std.proofs.lemmas.Result.{IfErr-weaker}
use Rattle.octet_io.specs.Device.{device_inner}
use Rattle.ipmd_commands.proofs.Lines.{kept}
use Rattle.ipmd_verify.specs.Found.{IsFoundIn}
use Rattle.ipmd_verify.proofs.Refusing.{begun, err_gives, no_room}
use Rattle.ipmd_verify.proofs.verifying.verify_input.Goals as goal

pub returns-in_err-text-in-Ok-clause-err : goal.returns-in_err-text-in-Ok-clause-err
returns-in_err-text-in-Ok-clause-err g c =
    let held = g.O.Write.contents (device_inner c.args.output.now) in
    err_gives c.from_residual.result c.from_residual.ensures
    (λ e is. no_room c.args.quiet c.args.path.now e (g.I.Read.remaining c.args.input) held held is (kept held))

pub returns-in-Ok-clause-err : goal.returns-in-Ok-clause-err
returns-in-Ok-clause-err g c =
    let given = g.I.Read.remaining c.args.input in
    let held = g.O.Write.contents (device_inner c.args.output.now) in
    let holds = g.O.Write.contents (device_inner c.write_text.new.output) in
    let found : IsFoundIn (not c.args.quiet) given c.in-Ok.verified = search rules in
    IfErr-weaker c.write_text.result _ _
    (λ e fails. inr (fails.0, begun c.args.quiet given held holds c.in-Ok.verified c.as_str.result.now found (c.as_str.ensures.value ∙ c.in_ok-text-in-Ok.ensures) fails.1))
    c.write_text.ensures.err
