use Rattle.std.proofs.Common.{ap, ap₂, refl, codes, false, true, Bool, Option, Some, [], ◌∷◌, ◌≡◌, ◌∙◌}
use Rattle.std.proofs.lemmas.Result.{IfOk-weaker}
use Rattle.clap.specs.Words.{Rule, app_of, new_app, rule_of, with_rule}
use Rattle.clap.specs.declared.builder.action.ArgAction.TheVariants.{SetTrue}
use Rattle.clap.specs.declared.builder.arg.Arg.{Arg}
use Rattle.clap.specs.declared.builder.value_parser.ValueParser.{ValueParser}
use Rattle.ipmd_command_line.specs.CommandLine.{flag, greatest_of_16_bits, greatest_of_32_bits, needed_option, number, valued_option, with_policy}
use Rattle.ipmd_command_line.proofs.command_line.offline_command.Goals as goal

abbrev is_global : Arg → Bool
is_global a = a.global

abbrev with_parser : Rule → Option ValueParser → Rule
with_parser r parser = record r { parser = parser }

pub returns : goal.returns
returns c =
    let named : app_of c.in_ok-with_policy.field-0 ≡ with_policy (new_app (codes "offline")) = c.in_ok-with_policy.ensures ∙ ap with_policy c.new.ensures.app in
    let used : app_of c.override_usage.result ≡ app_of c.in_ok-with_policy.field-0 = rw (c.override_usage.ensures) refl in
    let told : app_of c.about.result ≡ app_of c.override_usage.result = rw (c.about.ensures) refl in
    let helped : app_of c.after_help.result ≡ app_of c.about.result = rw (c.after_help.ensures) refl in
    let subscriber : rule_of c.help.result ≡ needed_option (codes "subscriber") =
    ap rule_of c.help.ensures ∙ ap rule_of c.required.ensures ∙ ap (λ (r : Rule). record r { required = true }) c.option.ensures.rule in
    let subscriber_local : c.help.result.global ≡ false = ap is_global c.help.ensures ∙ ap is_global c.required.ensures ∙ c.option.ensures.local in
    let read_now = c.value_parser-2.ensures.given in
    let now : rule_of c.help-2.result ≡ number (codes "now") (codes "0") greatest_of_32_bits =
    ap rule_of c.help-2.ensures ∙ ap rule_of c.value_parser-2.ensures.others
    ∙ ap₂ with_parser (ap rule_of c.default_value.ensures ∙ ap (λ (r : Rule). record r { defaults = codes "0" ∷ [] }) c.option-2.ensures.rule) (read_now.1 ∙ ap Some (read_now.2 ∙ c.value_parser.ensures)) in
    let now_local : c.help-2.result.global ≡ false = ap is_global c.help-2.ensures ∙ ap is_global c.value_parser-2.ensures.others ∙ ap is_global c.default_value.ensures ∙ c.option-2.ensures.local in
    let read_target = c.value_parser-4.ensures.given in
    let target : rule_of c.help-3.result ≡ number (codes "target") (codes "1400") greatest_of_16_bits =
    ap rule_of c.help-3.ensures ∙ ap rule_of c.value_parser-4.ensures.others
    ∙ ap₂ with_parser (ap rule_of c.default_value-2.ensures ∙ ap (λ (r : Rule). record r { defaults = codes "1400" ∷ [] }) c.option-3.ensures.rule) (read_target.1 ∙ ap Some (read_target.2 ∙ c.value_parser-3.ensures)) in
    let target_local : c.help-3.result.global ≡ false = ap is_global c.help-3.ensures ∙ ap is_global c.value_parser-4.ensures.others ∙ ap is_global c.default_value-2.ensures ∙ c.option-3.ensures.local in
    let audit : rule_of c.help-4.result ≡ valued_option (codes "audit") = ap rule_of c.help-4.ensures ∙ c.option-4.ensures.rule in
    let audit_local : c.help-4.result.global ≡ false = ap is_global c.help-4.ensures ∙ c.option-4.ensures.local in
    let hex : rule_of c.help-5.result ≡ flag (codes "hex") =
    ap rule_of c.help-5.ensures ∙ ap rule_of c.action.ensures
    ∙ ap (λ (r : Rule). record r { action = Some SetTrue }) (ap rule_of c.long.ensures ∙ ap (λ (r : Rule). record r { long = Some (codes "hex") }) c.new-2.ensures.rule) in
    let hex_local : c.help-5.result.global ≡ false = ap is_global c.help-5.ensures ∙ ap is_global c.action.ensures ∙ ap is_global c.long.ensures ∙ c.new-2.ensures.optional.1 in
    let first = c.in_ok-arg.ensures.shape subscriber_local ∙ ap₂ with_rule (helped ∙ told ∙ used ∙ named) subscriber in
    let second = c.in_ok-arg-2.ensures.shape now_local ∙ ap₂ with_rule first now in
    let third = c.in_ok-arg-3.ensures.shape target_local ∙ ap₂ with_rule second target in
    let fourth = c.in_ok-arg-4.ensures.shape audit_local ∙ ap₂ with_rule third audit in
    IfOk-weaker c.arg-5.result _ _ (λ r h. h.shape hex_local ∙ ap₂ with_rule fourth hex) c.arg-5.ensures
