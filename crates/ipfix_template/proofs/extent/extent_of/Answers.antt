use Rattle.std.proofs.Common.{rules, ◌≡◌, ◌+◌, ◌-◌, ◌≤◌, Bool, eqb, ◌∙◌, length, length-drop, sym, ap, arith, take, drop}
use Rattle.std.specs.Prelude.{◌&&◌}
use Rattle.std.proofs.lemmas.List.{take_rest}
use Rattle.ipfix_template.specs.Values.{value_start, extent_at}
use Rattle.ipfix_template.proofs.ExtentLaws.{with_extent, one_measured, no_more_measured, all_measured}
use Rattle.ipfix_template.proofs.extent.extent_of.Goals.{then-is_shortest, else-is_shortest}
use Rattle.ipfix_template.proofs.extent.extent_of.Goals as goal

pub returns-in_default-clause-exact : goal.returns-in_default-clause-exact
returns-in_default-clause-exact c =
    sym (no_more_measured c.args.fields.now c.field-item.result c.args.octets.now _ c.loop-field.field-index c.loop-field.used c.loop-field.is_shortest _ c.loop-field-test.true c.field-item.is (take_rest c.args.octets.now c.loop-field.used) (sym c.find_span.ensures.exact ∙ c.in_default.is) c.loop-field.invariant.measured)

pub loop-field-preserved : goal.loop-field-preserved
loop-field-preserved c =
    let start = c.in-Some.start in
    let len = c.in-Some.length in
    let octets = c.args.octets.now in
    let found : start + len ≤ length (take (length octets - c.loop-field.used) (drop c.loop-field.used octets)) = c.in-Some.ensures.within in
    let same : c.if-is_shortest.is_shortest ≡ (c.loop-field.is_shortest && eqb start (value_start c.field-item.result len)) = elim c.if-is_shortest.branch [ then-is_shortest w ↦ search rules | else-is_shortest w ↦ search rules ] in
    let measured = one_measured c.args.fields.now c.field-item.result octets _ c.loop-field.field-index c.loop-field.used start len c.loop-field.is_shortest _ c.loop-field-test.true c.field-item.is (take_rest octets c.loop-field.used) (sym c.in-Some.ensures.exact) c.loop-field.invariant.measured in
    record {
      within = omega (arith, ap length (take_rest octets c.loop-field.used), length-drop c.loop-field.used octets, c.loop-field.invariant.within, found);
      measured = ap (λ (b : Bool). with_extent (c.loop-field.used + (start + len)) b (extent_at (drop (c.loop-field.field-index + 1) c.args.fields.now) (drop (c.loop-field.used + (start + len)) octets))) same ∙ measured;
    }

pub returns-clause-exact : goal.returns-clause-exact
returns-clause-exact c =
    all_measured c.args.fields.now c.args.octets.now c.loop-field.field-index c.loop-field.used c.loop-field.is_shortest _ (omega arith) c.loop-field.invariant.measured
