use Rattle.std.proofs.Common.{◌≡◌, ◌∙◌, append_assoc}
use Rattle.std.proofs.lemmas.Result.{IfOk-weaker}
use Rattle.std.specs.String.{string_bytes}
use Rattle.ipmd.specs.Serving.{run_of, run_line}
use Rattle.ipmd.proofs.runs.line_of.Goals as goal

pub returns : goal.returns
returns c = IfOk-weaker c.format.result _ (λ line. string_bytes line ≡ run_line (run_of c.args.ended.now)) (λ line told. told ∙ simp append_assoc) c.format.ensures.ok
