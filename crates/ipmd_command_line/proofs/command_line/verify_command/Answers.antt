use Rattle.std.proofs.Common.{ap, ap₂, refl, codes, false, true, Bool, Some, ◌≡◌, ◌∙◌}
use Rattle.std.proofs.lemmas.Result.{IfOk-weaker}
use Rattle.clap.specs.Words.{Rule, app_of, rule_of, with_rule}
use Rattle.clap.specs.declared.builder.action.ArgAction.TheVariants.{SetTrue}
use Rattle.clap.specs.declared.builder.arg.Arg.{Arg}
use Rattle.ipmd_command_line.specs.CommandLine.{flag, needed_option}
use Rattle.ipmd_command_line.proofs.command_line.verify_command.Goals as goal

abbrev is_global : Arg → Bool
is_global a = a.global

pub returns : goal.returns
returns c =
    let used : app_of c.override_usage.result ≡ app_of c.new.result = rw (c.override_usage.ensures) refl in
    let told : app_of c.about.result ≡ app_of c.override_usage.result = rw (c.about.ensures) refl in
    let helped : app_of c.after_help.result ≡ app_of c.about.result = rw (c.after_help.ensures) refl in
    let journal : rule_of c.help.result ≡ needed_option (codes "journal") =
    ap rule_of c.help.ensures ∙ ap rule_of c.required.ensures ∙ ap (λ (r : Rule). record r { required = true }) c.option.ensures.rule in
    let journal_local : c.help.result.global ≡ false = ap is_global c.help.ensures ∙ ap is_global c.required.ensures ∙ c.option.ensures.local in
    let quiet : rule_of c.help-2.result ≡ flag (codes "quiet") =
    ap rule_of c.help-2.ensures ∙ ap rule_of c.action.ensures
    ∙ ap (λ (r : Rule). record r { action = Some SetTrue }) (ap rule_of c.long.ensures ∙ ap (λ (r : Rule). record r { long = Some (codes "quiet") }) c.new-2.ensures.rule) in
    let quiet_local : c.help-2.result.global ≡ false = ap is_global c.help-2.ensures ∙ ap is_global c.action.ensures ∙ ap is_global c.long.ensures ∙ c.new-2.ensures.optional.1 in
    let first = c.in_ok-arg.ensures.shape journal_local ∙ ap₂ with_rule (helped ∙ told ∙ used ∙ c.new.ensures.app) journal in
    IfOk-weaker c.arg-2.result _ _ (λ r h. h.shape quiet_local ∙ ap₂ with_rule first quiet) c.arg-2.ensures
