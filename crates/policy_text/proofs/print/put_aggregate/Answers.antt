use Rattle.std.proofs.Common.{[], ◌∷◌, ◌++◌, append_assoc}
use Rattle.std.specs.String.{string_bytes}
use Rattle.policy_text.specs.Printing.{line_text, aggregate_words}
use Rattle.policy_text.proofs.PrintLaws.{last_push}
use Rattle.policy_text.proofs.print.put_aggregate.Goals as goal

pub returns : goal.returns
returns c =
    last_push c.push_str-6.result (string_bytes c.push_str-6.new.self) (string_bytes c.put_number-2.new.text) (10 ∷ []) (string_bytes c.args.text.now ++ line_text (aggregate_words c.args.aggregate.now)) c.push_str-6.ensures.bytes
    (rw (c.in_ok-put_number-2.ensures, c.in_ok-push_str-5.ensures.bytes, c.in_ok-put_number.ensures, c.in_ok-push_str-4.ensures.bytes, c.in_ok-put_key.ensures, c.in_ok-push_str-3.ensures.bytes, c.in_ok-push_str-2.ensures.bytes, c.in_ok-push_str.ensures.bytes, c.as_str.ensures, c.name.ensures, c.key.ensures.value, c.interval.ensures, c.grace.ensures)
    (simp append_assoc))
