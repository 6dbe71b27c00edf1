use Rattle.std.proofs.Common.{List, sym, ap, ◌∙◌, subst}
use Rattle.std.specs.Arc.{arc_value}
use Rattle.ipfix_template.specs.declared.field.FieldSpec.{FieldSpec}
use Rattle.ipfix_template.specs.declared.template.Template.{Template}
use Rattle.ipfix_template.specs.Values.{record_text}
use Rattle.ipfix_template.specs.DataRecord.{DataRecord, IsKept, kept_record}
use Rattle.ipfix_template.proofs.TextLaws.{kept_from, kept_is}
use Rattle.disclosure_audit.specs.declared.entry.RemovedField.{RemovedField}
use Rattle.flow_anonymize.specs.declared.disclosure.Disclosure.TheVariants.{Passed}
use Rattle.flow_anonymize.specs.Remaining.{kept_values}
use Rattle.flow_anonymize.proofs.plan.pass.Goals as goal

pub from_octets-kept-requires : goal.from_octets-kept-requires
from_octets-kept-requires c =
    let values = kept_values c.args.flow_record.now.values c.args.verdicts.now in
    let kept = kept_from (arc_value c.args.template.now) values c.in_ok-text.text c.requires.sound (c.in_ok-text.ensures ∙ ap (λ (fs : List FieldSpec). record_text fs values) (sym c.requires.fields)) in
    subst (λ (t : Template). IsKept t c.in_ok-text.text) (sym c.in_ok-clone.ensures.cases) kept

pub returns : goal.returns
returns c =
    let values = kept_values c.args.flow_record.now.values c.args.verdicts.now in
    let same = kept_is (arc_value c.args.template.now) values c.in_ok-text.text c.requires.sound.fit (c.in_ok-text.ensures ∙ ap (λ (fs : List FieldSpec). record_text fs values) (sym c.requires.fields)) in
    let kept = c.from_octets-kept.ensures ∙ ap (λ (t : Template). kept_record t c.in_ok-text.text) c.in_ok-clone.ensures.cases ∙ same in
    let left : DataRecord = record { template = arc_value c.args.template.now; values = values } in
    ap (λ (r : DataRecord). Passed r c.in_ok-removed.removed) kept ∙ ap (λ (fields : List RemovedField). Passed left fields) c.in_ok-removed.ensures.cases
