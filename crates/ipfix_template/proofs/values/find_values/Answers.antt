use Rattle.std.proofs.Common.{◌≡◌, ◌+◌, ◌-◌, ◌≤◌, length, length-drop, drop, take, Some, None, sym, ap, subst, ◌∙◌, arith}
use Rattle.std.specs.Prelude.{List}
use Rattle.std.proofs.lemmas.List.{take_rest, take_all}
use Rattle.ipfix_template.specs.declared.field.FieldSpec.{FieldSpec}
use Rattle.ipfix_template.specs.Values.{span_at}
use Rattle.ipfix_template.specs.Shown.{values_shown, AreLaid}
use Rattle.ipfix_template.proofs.Laid.{one_laid}
use Rattle.ipfix_template.proofs.SplitSteps.{one_found, none_more, all_found, within_more}
use Rattle.ipfix_template.proofs.values.find_values.Goals as goal

pub returns-in_default-clause-shown : goal.returns-in_default-clause-shown
returns-in_default-clause-shown c =
    let at : span_at c.field-item.result (drop c.loop-field.used c.args.octets.now) ≡ None = ap (span_at c.field-item.result) (sym (take_rest c.args.octets.now c.loop-field.used)) ∙ sym c.find_span.ensures.exact ∙ c.in_default.is in
    sym (none_more c.args.fields.now c.field-item.result c.args.octets.now (values_shown c.args.octets.now c.loop-field.spans.items) c.loop-field.field-index c.loop-field.used _ c.loop-field-test.true c.field-item.is at c.loop-field.invariant.shown)

pub loop-field-preserved : goal.loop-field-preserved
loop-field-preserved c =
    let start = c.in-Some.start in
    let len = c.in-Some.length in
    let octets = c.args.octets.now in
    let found : start + len ≤ length (take (length octets - c.loop-field.used) (drop c.loop-field.used octets)) = c.in-Some.ensures.within in
    let inside : c.loop-field.used + (start + len) ≤ length octets = omega (arith, ap length (take_rest octets c.loop-field.used), length-drop c.loop-field.used octets, c.loop-field.invariant.within) in
    let at : span_at c.field-item.result (drop c.loop-field.used octets) ≡ Some (start, len) = ap (span_at c.field-item.result) (sym (take_rest octets c.loop-field.used)) ∙ sym c.in-Some.ensures.exact in
    record {
      within = inside;
      laid = rw c.in_ok-push.ensures.items (one_laid c.args.fields.now c.field-item.result octets c.loop-field.spans.items c.loop-field.field-index c.loop-field.used start len (λ i. omega (arith, c.type_inv.octets i)) c.loop-field-test.true c.field-item.is at c.loop-field.invariant.laid);
      spans = rw c.in_ok-push.ensures.items (within_more octets c.loop-field.spans.items _ (omega arith) c.loop-field.invariant.spans);
      shown = rw c.in_ok-push.ensures.items (one_found c.args.fields.now c.field-item.result octets c.loop-field.spans.items c.loop-field.field-index c.loop-field.used start len _ c.loop-field-test.true c.field-item.is at c.loop-field.invariant.shown);
    }

pub returns-clause-shown : goal.returns-clause-shown
returns-clause-shown c =
    all_found c.args.fields.now c.args.octets.now (values_shown c.args.octets.now c.loop-field.spans.items) c.loop-field.field-index c.loop-field.used _ (omega arith) c.loop-field.invariant.shown

pub returns-clause-laid : goal.returns-clause-laid
returns-clause-laid c =
    subst (λ (fs : List FieldSpec). AreLaid fs 0 c.args.octets.now c.loop-field.spans.items c.loop-field.used) (take_all c.loop-field.field-index c.args.fields.now (omega arith)) c.loop-field.invariant.laid
