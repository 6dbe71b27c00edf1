use Rattle.std.proofs.Common.{◌≡◌, ◌∙◌, append_assoc}
use Rattle.std.proofs.lemmas.Result.{IfOk-weaker}
use Rattle.std.specs.Prelude.{string_bytes}
use Rattle.ipmd_verify.specs.Verifying.{count_line}
use Rattle.ipmd_verify.proofs.telling.count_line.Goals as goal

pub returns : goal.returns
returns c =
    IfOk-weaker c.format.result _ (λ line. string_bytes line ≡ count_line c.args.count.now)
    (λ line told. let written = rw (c.as_str-name.ensures) at told in written ∙ simp append_assoc)
    c.format.ensures.ok
