use Rattle.std.proofs.Common.{◌≡◌, ◌-◌, ◌&&◌, true, length, get_or, ap, sym, ◌∙◌}
use Rattle.rule_table.specs.Covering.{has_first_bits}
use Rattle.rule_table.proofs.CoveringLaws.{each_in_ends}
use Rattle.rule_table.proofs.covering.each_in.Goals as goal

pub returns-then-is_in : goal.returns-then-is_in
returns-then-is_in c =
    let numbers = c.args.numbers.now in
    let last = has_first_bits c.args.width c.args.length c.args.address (get_or numbers (length numbers - 1) 0) in
    let first : has_first_bits c.args.width c.args.length c.args.address c.in-Some.first.now ≡ true = sym c.is_in.ensures ∙ c.if-is_in.true in
    c.is_in-then-is_in.ensures ∙ sym (ap (λ b. b && last) first) ∙ each_in_ends c.args.width c.args.length c.args.address numbers c.in-Some.first.now c.requires (sym c.in-Some.ensures.value)
