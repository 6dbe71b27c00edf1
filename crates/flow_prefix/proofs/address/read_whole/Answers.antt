use Rattle.std.proofs.Common.{◌≡◌, ◌<◌, ◌^◌, ℕ, sym, ap, subst, ◌∙◌, arith}
use Rattle.flow_prefix.specs.Family.{base, places}
use Rattle.flow_prefix.specs.Reading.{parts_of}
use Rattle.flow_prefix.proofs.AddressLaws.{whole-some, whole-other, whole-none, whole_power}
use Rattle.flow_prefix.proofs.address.read_whole.Goals as goal

pub returns-in_err-parts-clause-value : goal.returns-in_err-parts-clause-value
returns-in_err-parts-clause-value c =
    c.from_residual.ensures ∙ sym (whole-none c.args.family (parts_of c.args.family c.args.text.now) (sym c.in_err-parts.ensures.value))

pub returns-then-parts-places-clause-value : goal.returns-then-parts-places-clause-value
returns-then-parts-places-clause-value c =
    sym (whole-other c.args.family (parts_of c.args.family c.args.text.now) c.in_ok-parts.parts (sym c.in_ok-parts.ensures.value) (grind arith))

pub returns-clause-value : goal.returns-clause-value
returns-clause-value c =
    sym (whole-some c.args.family (parts_of c.args.family c.args.text.now) c.in_ok-parts.parts (sym c.in_ok-parts.ensures.value) (grind arith))

pub returns-clause-bound : goal.returns-clause-bound
returns-clause-bound c =
    let all : c.in_ok-parts.parts.count ≡ places c.args.family = grind arith in
    let below = c.in_ok-parts.ensures.counted.below in
    let P : ℕ → Type 0 = λ n. c.in_ok-parts.parts.value < n in
    subst P (ap (λ n. base c.args.family ^ n) all ∙ whole_power c.args.family) below
