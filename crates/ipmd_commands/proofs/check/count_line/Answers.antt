use Rattle.std.proofs.Common.{◌≡◌, ◌∙◌, append_assoc}
use Rattle.std.proofs.lemmas.Result.{IfOk-weaker}
use Rattle.std.specs.String.{string_bytes}
use Rattle.ipmd_commands.specs.Runs.{policy_summary}
use Rattle.ipmd_commands.proofs.check.count_line.Goals as goal

pub returns : goal.returns
returns c =
    IfOk-weaker c.format.result _ (λ line. string_bytes line ≡ policy_summary c.args.policy.now)
    (λ line told. let written = rw (c.rules.ensures.value, c.aggregates.ensures) at told in written ∙ simp append_assoc)
    c.format.ensures.ok
