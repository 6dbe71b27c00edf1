use Rattle.std.proofs.Common.{ap, ap₂, refl, codes, false, true, Bool, Option, Some, ◌≡◌, ◌∙◌}
use Rattle.std.proofs.lemmas.Result.{IfOk-weaker}
use Rattle.clap.specs.Words.{Rule, app_of, new_app, rule_of, with_rule}
use Rattle.clap.specs.declared.builder.arg.Arg.{Arg}
use Rattle.clap.specs.declared.builder.value_parser.ValueParser.{ValueParser}
use Rattle.ipmd_command_line.specs.CommandLine.{greatest_of_32_bits, long_number, needed_option, short_number}
use Rattle.ipmd_command_line.proofs.command_line.explain_command.Goals as goal

abbrev is_global : Arg → Bool
is_global a = a.global

abbrev with_parser : Rule → Option ValueParser → Rule
with_parser r parser = record r { parser = parser }

pub returns : goal.returns
returns c =
    let used : app_of c.override_usage.result ≡ app_of c.new.result = rw (c.override_usage.ensures) refl in
    let told : app_of c.about.result ≡ app_of c.override_usage.result = rw (c.about.ensures) refl in
    let helped : app_of c.after_help.result ≡ app_of c.about.result = rw (c.after_help.ensures) refl in
    let journal : rule_of c.help.result ≡ needed_option (codes "journal") =
    ap rule_of c.help.ensures ∙ ap rule_of c.required.ensures ∙ ap (λ (r : Rule). record r { required = true }) c.option.ensures.rule in
    let journal_local : c.help.result.global ≡ false = ap is_global c.help.ensures ∙ ap is_global c.required.ensures ∙ c.option.ensures.local in
    let read_sub = c.value_parser-2.ensures.given in
    let sub : rule_of c.help-2.result ≡ record (long_number (codes "sub")) { required = true } =
    ap rule_of c.help-2.ensures ∙ ap rule_of c.value_parser-2.ensures.others
    ∙ ap₂ with_parser (ap rule_of c.required-2.ensures ∙ ap (λ (r : Rule). record r { required = true }) c.option-2.ensures.rule) (read_sub.1 ∙ ap Some (read_sub.2 ∙ c.value_parser.ensures)) in
    let sub_local : c.help-2.result.global ≡ false = ap is_global c.help-2.ensures ∙ ap is_global c.value_parser-2.ensures.others ∙ ap is_global c.required-2.ensures ∙ c.option-2.ensures.local in
    let read_position = c.value_parser-4.ensures.given in
    let position : rule_of c.help-3.result ≡ long_number (codes "position") =
    ap rule_of c.help-3.ensures ∙ ap rule_of c.value_parser-4.ensures.others ∙ ap₂ with_parser c.option-3.ensures.rule (read_position.1 ∙ ap Some (read_position.2 ∙ c.value_parser-3.ensures)) in
    let position_local : c.help-3.result.global ≡ false = ap is_global c.help-3.ensures ∙ ap is_global c.value_parser-4.ensures.others ∙ c.option-3.ensures.local in
    let read_index = c.value_parser-6.ensures.given in
    let index : rule_of c.help-4.result ≡ short_number (codes "index") greatest_of_32_bits =
    ap rule_of c.help-4.ensures ∙ ap rule_of c.value_parser-6.ensures.others ∙ ap₂ with_parser c.option-4.ensures.rule (read_index.1 ∙ ap Some (read_index.2 ∙ c.value_parser-5.ensures)) in
    let index_local : c.help-4.result.global ≡ false = ap is_global c.help-4.ensures ∙ ap is_global c.value_parser-6.ensures.others ∙ c.option-4.ensures.local in
    let first = c.in_ok-arg.ensures.shape journal_local ∙ ap₂ with_rule (helped ∙ told ∙ used ∙ c.new.ensures.app) journal in
    let second = c.in_ok-arg-2.ensures.shape sub_local ∙ ap₂ with_rule first sub in
    let third = c.in_ok-arg-3.ensures.shape position_local ∙ ap₂ with_rule second position in
    IfOk-weaker c.arg-4.result _ _ (λ r h. h.shape index_local ∙ ap₂ with_rule third index) c.arg-4.ensures
