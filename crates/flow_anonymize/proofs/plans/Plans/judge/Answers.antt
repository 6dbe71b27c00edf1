use Rattle.std.proofs.Common.{◌≡◌, ◌∙◌, ◌++◌, ◌<◌, ◌≤◌, ℕ, Some, ap, sym, subst, arith, List, IfOk, OnOk, slice_get}
use Rattle.std.specs.List.{flat_map}
use Rattle.ipfix_template.specs.DataRecord.{DataRecord}
use Rattle.flow_anonymize.specs.declared.slot.Slot.{Slot}
use Rattle.flow_anonymize.specs.Outcome.{Outcome, Decision, passed, decision_of}
use Rattle.flow_anonymize.specs.Parts.{record_at, records_between}
use Rattle.flow_anonymize.specs.PlanCache.{passed_by}
use Rattle.flow_anonymize.specs.Plans.{PlansOf, Discloses, outcome_for, passed_for}
use Rattle.flow_anonymize.proofs.PartLaws.{sound_at, part_same, part_one}
use Rattle.flow_anonymize.proofs.PlanLaws.{found_in_cache, there_is}
use Rattle.flow_anonymize.proofs.plans.Plans.judge.Goals as goal

pub give-requires-clause-showable : goal.give-requires-clause-showable
give-requires-clause-showable c = λ slot i at low high.
    (found_in_cache _ c.args.self.now.for c.self.inside.cache.slots c.in-Some.classes c.args.classes (record_at c.args.run.now i) c.in-Some-place_of.place slot c.self.invariant (ap (λ (p : PlansOf). p.for) c.self.view_is)
    (sym c.in-Some-place_of.is ∙ c.place_of.ensures.place) at c.requires.template (sound_at c.args.run.now i c.len-for_proof.ensures.kept (omega (arith, high, c.requires.within))) c.in-Some.is (c.requires.classes i low high)).showable

-- the plan at the place discloses what is due
exact : (c : goal.After-give) (slot : Slot) (i : ℕ) → c.args.from ≤ i → i < c.args.to → slice_get c.self.inside.cache.slots c.in-Some-place_of.place ≡ Some slot → Discloses c.args.self.now.for (record_at c.args.run.now i) slot
exact c slot i low high at =
    found_in_cache _ c.args.self.now.for c.self.inside.cache.slots c.in-Some.classes c.args.classes (record_at c.args.run.now i) c.in-Some-place_of.place slot c.self.invariant (ap (λ (p : PlansOf). p.for) c.self.view_is)
    (sym c.in-Some-place_of.is ∙ c.place_of.ensures.place) at c.requires.template (sound_at c.args.run.now i c.len-for_proof.ensures.kept (omega (arith, high, c.requires.within))) c.in-Some.is (c.requires.classes i low high)

pub returns-in-Some-place_of-clause-given : goal.returns-in-Some-place_of-clause-given
returns-in-Some-place_of-clause-given c =
    let part = records_between c.args.from c.args.to c.args.run.now in
    there_is c.self.inside.cache.slots c.in-Some-place_of.place c.in-Some-place_of.ensures.within (λ slot at.
    subst (λ (l : List DataRecord). OnOk c.give.result (c.give.new.self.given ≡ c.args.self.now.given ++ l))
    (part_same (passed_by slot.plan) (passed_for c.args.self.now.for) c.args.from c.args.to c.args.run.now (omega (arith, c.requires.some)) c.requires.within (λ i low high. ap passed (exact c slot i low high at).exact))
    (subst (λ (g : List DataRecord). OnOk c.give.result (c.give.new.self.given ≡ g ++ flat_map (passed_by slot.plan) part)) (ap (λ (p : PlansOf). p.given) c.self.view_is) (c.give.ensures.given slot at)))

pub returns-in-Some-place_of-clause-decision : goal.returns-in-Some-place_of-clause-decision
returns-in-Some-place_of-clause-decision c = λ i low high.
    there_is c.self.inside.cache.slots c.in-Some-place_of.place c.in-Some-place_of.ensures.within (λ slot at.
    subst (λ (o : Outcome). IfOk c.give.result (λ (d : Decision). d ≡ decision_of o)) (exact c slot i low high at).exact (c.give.ensures.decision slot (record_at c.args.run.now i).values at))

-- a record without classes stands alone
pub returns-in_default-clause-given : goal.returns-in_default-clause-given
returns-in_default-clause-given c =
    let one = part_one (passed_for c.args.self.now.for) c.args.from c.args.to c.args.run.now (c.requires.alone c.in_default.is) (omega (arith, c.requires.some, c.requires.within)) in
    subst (λ (l : List DataRecord). OnOk c.disclose_singly.result (c.disclose_singly.new.self.given ≡ c.args.self.now.given ++ l)) (sym one)
    (subst (λ (r : DataRecord). OnOk c.disclose_singly.result (c.disclose_singly.new.self.given ≡ c.args.self.now.given ++ passed_for c.args.self.now.for r)) c.in_ok-record.ensures c.disclose_singly.ensures.given)

pub returns-in_default-clause-decision : goal.returns-in_default-clause-decision
returns-in_default-clause-decision c = λ i low high.
    let here : c.args.from ≡ i = omega (arith, low, high, c.requires.alone c.in_default.is) in
    subst (λ (r : DataRecord). IfOk c.disclose_singly.result (λ (d : Decision). d ≡ decision_of (outcome_for c.args.self.now.for r)))
    (c.in_ok-record.ensures ∙ ap (record_at c.args.run.now) here) c.disclose_singly.ensures.decision
