use Rattle.std.proofs.Common.{◌≡◌, ◌++◌, ◌∷◌, [], OnOk, string_bytes, sym, subst, ap, ◌∙◌}
use Rattle.std.proofs.lemmas.Fmt.{decimal_digit}
use Rattle.disclosure_audit.proofs.lines.put_number.Goals as goal

pub returns-then-number-lt10 : goal.returns-then-number-lt10
returns-then-number-lt10 c =
    subst (λ digits. OnOk c.put_mark.result (string_bytes c.put_mark.new.text ≡ string_bytes c.args.text.now ++ digits))
    (ap (λ digit. digit ∷ []) c.from.ensures ∙ sym (decimal_digit c.args.number c.if-number-lt10.true)) c.put_mark.ensures
