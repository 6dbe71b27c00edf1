use Rattle.std.proofs.Common.{rules, ◌≡◌, false, Some, None, length, ltb, arith}
use Rattle.std.proofs.lemmas.Bool.{lt-ltb, le-ltb}
use Rattle.ipfix_template.specs.Template.{shortest_record}
use Rattle.ipfix_template.specs.Values.{extent_at}
use Rattle.ipfix_template.proofs.ExtentLaws.{record_measured, overrun_measured, padding_measured}
use Rattle.ipfix_template.proofs.extent.find_extent.Goals as goal

pub returns-then-octets-shortest : goal.returns-then-octets-shortest
returns-then-octets-shortest c = padding_measured c.args.template.now c.args.octets.now (lt-ltb _ _ (omega (arith, c.if-octets-shortest.true, c.shortest.ensures)))

pub returns-in-Some : goal.returns-in-Some
returns-in-Some c =
    let long : ltb (length c.args.octets.now) (shortest_record c.args.template.now) ≡ false = le-ltb _ _ (omega (arith, c.if-octets-shortest.false, c.shortest.ensures)) in
    let found : extent_at c.args.template.now.fields c.args.octets.now ≡ Some (c.in-Some.used, c.in-Some.is_shortest) = search rules in
    record_measured c.args.template.now c.args.octets.now (λ i. omega (arith, c.type_inv.octets i)) c.in-Some.used c.in-Some.is_shortest long c.in-Some.ensures.within found

pub returns-in-None : goal.returns-in-None
returns-in-None c =
    let long : ltb (length c.args.octets.now) (shortest_record c.args.template.now) ≡ false = le-ltb _ _ (omega (arith, c.if-octets-shortest.false, c.shortest.ensures)) in
    let none : extent_at c.args.template.now.fields c.args.octets.now ≡ None = search rules in
    overrun_measured c.args.template.now c.args.octets.now long none
