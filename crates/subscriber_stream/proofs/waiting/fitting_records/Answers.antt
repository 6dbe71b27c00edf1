use Rattle.std.proofs.Common.{ℕ, ◌+◌, sym, ap, arith}
use Rattle.subscriber_stream.proofs.TextLaws.{few_fitting}
use Rattle.subscriber_stream.proofs.RunLaws.{Fitted, fitted, none_fitted, fits_closed}
use Rattle.subscriber_stream.proofs.waiting.fitting_records.Goals as goal

pub returns-then-opened-target-clause-parts : goal.returns-then-opened-target-clause-parts
returns-then-opened-target-clause-parts c =
    sym (fits_closed c.args.target c.args.last c.args.id c.args.octets c.args.texts.now (omega (arith, c.head_octets.ensures)))

pub returns-then-parts-eq0-clause-parts : goal.returns-then-parts-eq0-clause-parts
returns-then-parts-eq0-clause-parts c =
    none_fitted c.args.target c.args.last c.args.id c.args.octets _ c.args.texts.now _ (ap (λ (n : ℕ). c.args.octets + n) c.head_octets.ensures) (omega arith) (rw c.from-target.ensures at c.fitting-parts.ensures) c.if-parts-eq0.true

pub octets-requires : goal.octets-requires
octets-requires c = few_fitting _ _ _ c.fitting-parts.ensures

is_fitted : (c : goal.After-octets) → Fitted c.args.target c.args.last c.args.id c.args.octets c.args.texts.now c.fitting-parts.result (c.args.octets + c.head_octets.result + c.octets.result)
is_fitted c =
    fitted c.args.target c.args.last c.args.id c.args.octets _ c.args.texts.now _ _ (ap (λ (n : ℕ). c.args.octets + n) c.head_octets.ensures) (omega arith) (rw c.from-target.ensures at c.fitting-parts.ensures) c.if-parts-eq0.false c.octets.ensures.exact

pub returns-clause-parts : goal.returns-clause-parts
returns-clause-parts c = (is_fitted c).parts_are

pub returns-clause-octets : goal.returns-clause-octets
returns-clause-octets c = (is_fitted c).octets_are

pub returns-clause-small : goal.returns-clause-small
returns-clause-small c = omega (arith, (is_fitted c).small)
