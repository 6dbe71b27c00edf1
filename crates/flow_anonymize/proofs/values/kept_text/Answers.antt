use Rattle.std.proofs.Common.{ap, subst, ◌∙◌, rules}
use Rattle.std.proofs.lemmas.Result.{IfOk-weaker}
use Rattle.sequences.specs.Octets.{AreOctets}
use Rattle.ipfix_template.proofs.Encoding.{fit_fields-length}
use Rattle.flow_anonymize.specs.Steps.{shown_by, steps_in}
use Rattle.flow_anonymize.proofs.TextLaws.{whole_text}
use Rattle.flow_anonymize.proofs.values.kept_text.Goals as goal

pub returns-then-are_whole : goal.returns-then-are_whole
returns-then-are_whole c =
    let r = c.args.flow_record.now in
    let whole = whole_text r.template.fields r.values c.args.verdicts.now c.requires.each (fit_fields-length r.template.fields r.values c.as_octets-octets.ensures.sound.fit) c.if-are_whole.ensures in
    rw (← whole, ← c.as_octets-octets.ensures.value) (search (rules, c.clone.ensures.cases))

pub returns : goal.returns
returns c =
    let r = c.args.flow_record.now in
    let octets = c.deref-2.ensures ∙ c.as_octets-octets.ensures.value in
    let all = subst AreOctets (c.deref.ensures ∙ c.as_octets-octets.ensures.value) c.octets_for_proof.ensures in
    IfOk-weaker c.written_text.result _ _ (λ text is. is ∙ ap (shown_by (steps_in c.args.steps.now)) octets ∙ c.requires.by_steps r.values c.as_octets-octets.ensures.sound.fit all) c.written_text.ensures
