use Rattle.std.proofs.Common.{[], ◌∷◌, ◌++◌}
use Rattle.std.specs.String.{string_bytes}
use Rattle.policy_text.specs.Printing.{line_text, rule_words}
use Rattle.policy_text.proofs.PrintLaws.{last_push, rule_row}
use Rattle.policy_text.proofs.print.put_rule.Goals as goal

pub returns : goal.returns
returns c =
    last_push c.push_str-6.result (string_bytes c.push_str-6.new.self) (string_bytes c.put_action.new.text) (10 ∷ []) (string_bytes c.args.text.now ++ line_text (rule_words c.args.aggregates.now c.args.rule.now)) c.push_str-6.ensures.bytes
    (rw (c.in_ok-put_action.ensures, c.in_ok-push_str-5.ensures.bytes, c.in_ok-put_prefix-2.ensures, c.in_ok-push_str-4.ensures.bytes, c.in_ok-put_prefix.ensures, c.in_ok-push_str-3.ensures.bytes, c.in_ok-put_domain.ensures, c.in_ok-push_str-2.ensures.bytes, c.in_ok-put_who.ensures, c.in_ok-push_str.ensures.bytes)
    (rule_row c.args.aggregates.now c.args.rule.now (string_bytes c.args.text.now)))
