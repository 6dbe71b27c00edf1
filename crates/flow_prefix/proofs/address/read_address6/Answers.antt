use Rattle.std.proofs.Common.{Some, sym, ap, ◌∙◌, arith, ℕ}
use Rattle.flow_prefix.specs.Reading.{groups_of}
use Rattle.flow_prefix.proofs.AddressLaws.{address6-long, address6-short, sides-some, sides-full, sides-no_left, sides-no_right}
use Rattle.flow_prefix.proofs.address.read_address6.Goals as goal

pub returns-in_default-clause-value : goal.returns-in_default-clause-value
returns-in_default-clause-value c =
    c.read_whole.ensures.value ∙ sym (address6-long c.args.text.now (sym c.in_default.ensures))

pub returns-in_err-left-clause-value : goal.returns-in_err-left-clause-value
returns-in_err-left-clause-value c =
    c.from_residual.ensures ∙ sym (address6-short c.args.text.now c.in-Some.before.now c.in-Some.after.now (sym c.in-Some.ensures)
    ∙ sides-no_left (groups_of c.in-Some.before.now) (groups_of c.in-Some.after.now) (sym c.in_err-left.ensures.value))

pub returns-in_err-right-clause-value : goal.returns-in_err-right-clause-value
returns-in_err-right-clause-value c =
    c.from_residual-in_err-right.ensures ∙ sym (address6-short c.args.text.now c.in-Some.before.now c.in-Some.after.now (sym c.in-Some.ensures)
    ∙ sides-no_right (groups_of c.in-Some.before.now) (groups_of c.in-Some.after.now) (sym c.in_err-right.ensures.value))

pub returns-then-left-right-ge-GROUPS-clause-value : goal.returns-then-left-right-ge-GROUPS-clause-value
returns-then-left-right-ge-GROUPS-clause-value c =
    sym (address6-short c.args.text.now c.in-Some.before.now c.in-Some.after.now (sym c.in-Some.ensures)
    ∙ sides-full (groups_of c.in-Some.before.now) (groups_of c.in-Some.after.now) c.in_ok-left.left c.in_ok-right.right (sym c.in_ok-left.ensures.value) (sym c.in_ok-right.ensures.value) (omega arith))

pub returns-clause-value : goal.returns-clause-value
returns-clause-value c =
    ap (λ (n : ℕ). Some n) c.filled.ensures.value ∙ sym (address6-short c.args.text.now c.in-Some.before.now c.in-Some.after.now (sym c.in-Some.ensures)
    ∙ sides-some (groups_of c.in-Some.before.now) (groups_of c.in-Some.after.now) c.in_ok-left.left c.in_ok-right.right (sym c.in_ok-left.ensures.value) (sym c.in_ok-right.ensures.value) (omega arith))
