use Rattle.std.proofs.Common.{◌≡◌, ◌∙◌, string_bytes}
use Rattle.std.proofs.lemmas.Result.{IfOk-weaker}
use Rattle.ipmd_commands.specs.Failures.{failure_line}
use Rattle.ipmd_commands.proofs.Telling.{made_of}
use Rattle.ipmd_commands.proofs.failure.line_of.Goals as goal

pub returns : goal.returns
returns c =
    IfOk-weaker c.format.result _ (λ line. string_bytes line ≡ failure_line c.args.name.now c.args.why.now)
    (λ line told. told ∙ made_of c.args.name.now c.args.why.now (string_bytes c.in_ok-name.name) (string_bytes c.in_ok-why.why) c.in_ok-name.ensures c.in_ok-why.ensures) c.format.ensures.ok
