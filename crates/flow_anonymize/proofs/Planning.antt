-- Plans: what they show, and of which records.
use Rattle.std.proofs.Common.{◌≡◌, ◌≢◌, ℕ, List, sym, ap, subst, refl, ◌∙◌}
use Rattle.std.specs.Arc.{arc_value}
use Rattle.sequences.specs.Octets.{AreOctets}
use Rattle.ipfix_template.specs.Values.{record_text}
use Rattle.ipfix_template.specs.declared.field.FieldSpec.{FieldSpec}
use Rattle.ipfix_template.specs.declared.template.Template.{Template}
use Rattle.ipfix_template.proofs.TextLaws.{kept_from, kept_is}
use Rattle.ipfix_template.specs.DataRecord.{DataRecord, IsSound}
use Rattle.policy_judge.specs.declared.verdict.RecordAction.{RecordAction}
use Rattle.policy_judge.specs.declared.verdict.RecordAction.TheVariants as on_record
use Rattle.policy_judge.specs.declared.verdict.RecordVerdict.{RecordVerdict}
use Rattle.policy_judge.specs.declared.verdict.ElementVerdict.{ElementVerdict}
use Rattle.disclosure_audit.specs.declared.entry.RemovedField.{RemovedField}
use Rattle.flow_anonymize.specs.declared.steps.Step.{Step}
use Rattle.flow_anonymize.specs.declared.disclosure.Disclosure.TheVariants.{Passed, Aggregated, Withheld}
use Rattle.flow_anonymize.specs.declared.plan.Passing.{Passing}
use Rattle.flow_anonymize.specs.Outcome.{Outcome, passed_text, IsKeptAsText}
use Rattle.flow_anonymize.specs.Remaining.{kept_fields, kept_values, removed_fields}
use Rattle.flow_anonymize.specs.Within.{AreJudged}
use Rattle.flow_anonymize.specs.Disclosed.{remaining, first_lost, transformed, by_action}
use Rattle.flow_anonymize.specs.Steps.{AreSteps, steps_in, shown_by}
use Rattle.flow_anonymize.specs.Planning.{Plan, planned, passing_record, ShowsRecord, IsShowable, ShowsNone, IsPlanFrom}
use Rattle.flow_anonymize.proofs.Sound.{left_is_sound}
use Rattle.flow_anonymize.proofs.PermittedLaws.{passed_by}

-- ---- what is shown of a record that doesn't pass

none_by : (a : RecordAction) (rule : ℕ) (passing : Outcome) (kept : DataRecord) (removed : List RemovedField) → (a ≡ on_record.Pass → ⊥) → Passed kept removed ≡ by_action a rule passing → ⊥
none_by on_record.Pass rule passing kept removed other e = other refl
none_by on_record.Withhold rule passing kept removed other e = cc
none_by (on_record.Aggregate definition) rule passing kept removed other e = cc

pub shows_none : (t : Template) (verdict : RecordVerdict) (ws : List ElementVerdict) (plan : Plan) (values : List (List ℕ)) → IsPlanFrom t verdict ws plan → verdict.action ≢ on_record.Pass → ShowsNone plan
shows_none t verdict ws (Passed passing removed) values is other =
    none_by verdict.action verdict.rule (transformed (record { template = t; values = values }) ws) _ _ other (is.leaves values)
shows_none t verdict ws (Aggregated rule definition) values is other = tt
shows_none t verdict ws (Withheld rule reason) values is other = tt

pub none_showable : (plan : Plan) (r : DataRecord) → ShowsNone plan → IsShowable plan r
none_showable (Passed passing removed) r none = absurd none
none_showable (Aggregated rule definition) r none = tt
none_showable (Withheld rule reason) r none = tt

-- ---- what is shown of records on which the verdicts are these

pub showable : (r : DataRecord) (verdict : RecordVerdict) (ws : List ElementVerdict) (plan : Plan) → AreJudged r ws → IsPlanFrom r.template verdict ws plan → IsShowable plan r
showable r verdict ws (Passed passing removed) judged is =
    let same : passing.verdicts.items ≡ ws = is.by.0 in
    let kept : DataRecord = passing_record passing r.values in
    let passed = passed_by verdict.action verdict.rule (first_lost r.template.scope (removed_fields ws)) (remaining r ws) (removed_fields ws) kept removed (sym (is.leaves r.values)) in
    let left = left_is_sound r ws judged.sound judged.each passed.none_lost passed.has_octets in
    let P : List ElementVerdict → Type 0 = λ ws. ShowsRecord r (arc_value passing.template) ws (steps_in passing.steps) in
    let fields : (arc_value passing.template).fields ≡ kept_fields r.template.fields ws = ap (λ (x : DataRecord). x.template.fields) (sym passed.record_is) in
    let values : kept_values r.values ws ≡ kept.values = ap (λ (x : DataRecord). x.values) passed.record_is in
    let sound : IsSound (record { template = arc_value passing.template; values = kept_values r.values ws }) = subst (λ (v : List (List ℕ)). IsSound (record { template = arc_value passing.template; values = v })) (sym values) (subst IsSound passed.record_is left) in
    subst P (sym same) (record { each = judged.each; within = judged.within; fields = fields; sound = sound; by_steps = is.by.1 })
showable r verdict ws (Aggregated rule definition) judged is = tt
showable r verdict ws (Withheld rule reason) judged is = tt

-- ---- what passes by a plan, whatever the values

-- what is shown is kept as its text
pub kept_as_text : (plan : Plan) (r : DataRecord) → IsShowable plan r → IsKeptAsText (planned plan r.values)
kept_as_text (Passed passing removed) r shows =
    let values = kept_values r.values passing.verdicts.items in
    record { is_kept = kept_from (arc_value passing.template) values _ shows.sound refl; same = kept_is (arc_value passing.template) values _ shows.sound.fit refl }
kept_as_text (Aggregated rule definition) r shows = tt
kept_as_text (Withheld rule reason) r shows = tt

-- the steps show it of the record's text
pub shows_text : (plan : Plan) (passing : Passing) (removed : List RemovedField) (r : DataRecord) (octets : List ℕ) → plan ≡ Passed passing removed → IsShowable plan r → IsSound r → octets ≡ record_text r.template.fields r.values → AreOctets octets
    → shown_by (steps_in passing.steps) octets ≡ passed_text (planned plan r.values)
shows_text plan passing removed r octets is showable sound text all =
    let shows : ShowsRecord r (arc_value passing.template) passing.verdicts.items (steps_in passing.steps) = subst (λ (p : Plan). IsShowable p r) is showable in
    let values = kept_values r.values passing.verdicts.items in
    ap (shown_by (steps_in passing.steps)) text ∙ shows.by_steps r.values sound.fit (subst AreOctets text all) ∙ ap (λ (fs : List FieldSpec). record_text fs values) (sym shows.fields)
    ∙ ap (λ (p : Plan). passed_text (planned p r.values)) (sym is)

-- ---- steps that are made for equal fields and verdicts

pub steps_for : (gs fs : List FieldSpec) (us ws : List ElementVerdict) (steps : List Step) → gs ≡ fs → us ≡ ws → AreSteps gs us steps → AreSteps fs ws steps
steps_for gs fs us ws steps fields verdicts are =
    let P : List FieldSpec → Type 0 = λ gs. AreSteps gs us steps in
    let Q : List ElementVerdict → Type 0 = λ us. AreSteps fs us steps in
    subst Q verdicts (subst P fields are)
