use Rattle.std.proofs.Common.{◌++◌, sym, ap, ◌∙◌, arith, append-nil}
use Rattle.std.specs.String.{string_bytes}
use Rattle.policy_text.proofs.PrintLaws.{name_at_past}
use Rattle.policy_text.proofs.print.put_name_at.Goals as goal

pub returns-then-place-aggregates : goal.returns-then-place-aggregates
returns-then-place-aggregates c =
    sym (ap (λ t. string_bytes c.args.text.now ++ t) (name_at_past c.args.aggregates.now c.args.place (omega arith)) ∙ append-nil (string_bytes c.args.text.now))
