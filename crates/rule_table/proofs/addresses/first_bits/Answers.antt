use Rattle.std.proofs.Common.{◌≤◌, ◌-◌, ◌^◌, ◌<◌, ◌⊎◌, ℕ, sym, arith, inl, inr}
use Rattle.std.proofs.lemmas.Bool.{cases_lt}
use Rattle.rule_table.proofs.ShapeLaws.{truncated-none}
use Rattle.rule_table.proofs.addresses.first_bits.Goals as goal

not_below : (m : ℕ) → (m < 128 → ⊥) → (m < 128) ⊎ (128 ≤ m) → 128 ≤ m
not_below m most (inl l) = absurd (most l)
not_below m most (inr l) = l

pub returns-in-None : goal.returns-in-None
returns-in-None c =
    let dropped = not_below c.saturating_sub.result c.in-None.ensures (cases_lt c.saturating_sub.result 128) in
    let most : 128 ≤ c.args.width - c.args.kept = omega (arith, dropped, c.saturating_sub.ensures) in
    let below : c.args.number < 2 ^ 128 = omega (arith, c.ranges.number) in
    sym (truncated-none c.args.width c.args.kept c.args.number below most)
