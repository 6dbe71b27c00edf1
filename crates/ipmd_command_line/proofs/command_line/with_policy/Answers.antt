use Rattle.std.proofs.Common.{rules, ap, ap₂, codes, ◌≡◌, ◌∙◌}
use Rattle.std.proofs.lemmas.Result.{IfOk-weaker}
use Rattle.clap.specs.Words.{app_of, rule_of, with_rule}
use Rattle.ipmd_command_line.specs.CommandLine.{valued_option}
use Rattle.ipmd_command_line.proofs.command_line.with_policy.Goals as goal

pub returns : goal.returns
returns c =
    let file_is : rule_of c.help.result ≡ valued_option (codes "policy") = search rules in
    let text_is : rule_of c.help-2.result ≡ valued_option (codes "policy-text") = search rules in
    IfOk-weaker c.arg-2.result _ _ (λ r h. h.shape (search rules) ∙ ap₂ with_rule (c.in_ok-arg.ensures.shape (search rules) ∙ ap (with_rule (app_of c.args.command)) file_is) text_is) c.arg-2.ensures
