use Rattle.std.proofs.Common.{◌≡◌, false, Some, None, length, ltb, arith}
use Rattle.std.proofs.lemmas.Bool.{lt-ltb, le-ltb}
use Rattle.ipfix_template.specs.Template.{shortest_record}
use Rattle.ipfix_template.specs.Values.{extent_at}
use Rattle.ipfix_template.proofs.ExtentLaws.{record_measured, overrun_measured, padding_measured}
use Rattle.ipfix_records.proofs.LayoutLaws.{laid_out, walked}
use Rattle.ipfix_records.proofs.layout.Layout.find_extent.Goals as goal

pub returns-then-octets-self : goal.returns-then-octets-self
returns-then-octets-self c =
    let kept = laid_out c.args.self.now _ _ _ _ c.self.view_is c.self.invariant in
    padding_measured c.args.self.now c.args.octets.now (lt-ltb _ _ (omega (arith, c.if-octets-self.true, kept.least)))

pub returns-in-Some : goal.returns-in-Some
returns-in-Some c =
    let kept = laid_out c.args.self.now _ _ _ _ c.self.view_is c.self.invariant in
    let long : ltb (length c.args.octets.now) (shortest_record c.args.self.now) ≡ false = le-ltb _ _ (omega (arith, c.if-octets-self.false, kept.least)) in
    let found : extent_at c.args.self.now.fields c.args.octets.now ≡ Some (c.in-Some.used, c.in-Some.is_shortest) = walked c.args.self.now _ _ _ c.args.octets.now _ _ kept c.as_slice.ensures.value c.in-Some.ensures.exact in
    record_measured c.args.self.now c.args.octets.now (λ i. omega (arith, c.type_inv.octets i)) c.in-Some.used c.in-Some.is_shortest long c.in-Some.ensures.within found

pub returns-in-None : goal.returns-in-None
returns-in-None c =
    let kept = laid_out c.args.self.now _ _ _ _ c.self.view_is c.self.invariant in
    let long : ltb (length c.args.octets.now) (shortest_record c.args.self.now) ≡ false = le-ltb _ _ (omega (arith, c.if-octets-self.false, kept.least)) in
    let none : extent_at c.args.self.now.fields c.args.octets.now ≡ None = walked c.args.self.now _ _ _ c.args.octets.now _ _ kept c.as_slice.ensures.value c.in-None.ensures.exact in
    overrun_measured c.args.self.now c.args.octets.now long none
