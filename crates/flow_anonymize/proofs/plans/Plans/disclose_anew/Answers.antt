use Rattle.std.proofs.Common.{◌≡◌, ◌++◌, ◌<◌, ◌≤◌, ℕ, Some, IfOk, OnOk, slice_get, ap, sym, subst, arith, ◌∙◌, List, string_bytes}
use Rattle.std.specs.List.{flat_map}
use Rattle.ipfix_template.specs.DataRecord.{DataRecord}
use Rattle.std.specs.Arc.{arc_value}
use Rattle.std.specs.Option.{option_map}
use Rattle.flow_anonymize.specs.declared.slot.Slot.{Slot}
use Rattle.flow_anonymize.specs.Outcome.{Outcome, Decision, passed, decision_of}
use Rattle.flow_anonymize.specs.Parts.{record_at, records_between}
use Rattle.flow_anonymize.specs.PlanCache.{passed_by}
use Rattle.flow_anonymize.specs.Plans.{PlansOf, PlansFor, IsSlot, ArePlansKept, Discloses, passed_for}
use Rattle.flow_anonymize.proofs.PartLaws.{sound_at, part_same}
use Rattle.flow_anonymize.proofs.PlanLaws.{kept_put, put_shelf}
use Rattle.flow_anonymize.proofs.plans.Plans.disclose_anew.Goals as goal

pub invariant_of-self-2 : goal.invariant_of-self-2
invariant_of-self-2 c =
    let for : PlansFor = record { rules = (arc_value c.self.inside.table); cuts = (arc_value c.self.inside.classes); name = (string_bytes c.self.inside.name); domain = c.self.inside.domain; template = option_map arc_value c.self.inside.template } in
    let P : PlansFor → Type 0 = λ f. IsSlot f c.in_ok-slot.slot in
    subst (λ (slots : List Slot). ArePlansKept for slots) (sym c.give.ensures.slots)
    (kept_put for c.self.inside.cache.slots c.in_ok-slot.slot c.in_ok-place.place c.keep.new.self.slots c.self.invariant (subst P (sym (ap (λ (p : PlansOf). p.for) c.self.view_is)) c.in_ok-slot.ensures.1) c.in_ok-place.ensures.put)

-- what the plan that is made discloses is due
exact : (c : goal.After-give) (slot : Slot) (i : ℕ) → c.args.from ≤ i → i < c.args.to → slice_get c.keep.new.self.slots c.in_ok-place.place ≡ Some slot → Discloses c.args.self.now.for (record_at c.args.run.now i) slot
exact c slot i low high at =
    put_shelf c.args.self.now.for c.self.inside.cache.slots c.keep.new.self.slots (record_at c.args.run.now i) c.in_ok-place.place c.in_ok-slot.slot slot c.in_ok-place.ensures.put c.in_ok-slot.ensures.1 at
    c.requires.template (sound_at c.args.run.now i c.len-for_proof.ensures.kept (omega (arith, high, c.requires.within))) (ap Some c.in_ok-slot.ensures.0 ∙ c.requires.classes i low high)

pub returns-clause-given : goal.returns-clause-given
returns-clause-given c =
    let slot = c.in_ok-slot.slot in
    let at = c.in_ok-place.ensures.put.there in
    let part = records_between c.args.from c.args.to c.args.run.now in
    subst (λ (l : List DataRecord). OnOk c.give.result (c.give.new.self.given ≡ c.args.self.now.given ++ l))
    (part_same (passed_by slot.plan) (passed_for c.args.self.now.for) c.args.from c.args.to c.args.run.now (omega (arith, c.requires.some)) c.requires.within (λ i low high. ap passed (exact c slot i low high at).exact))
    (subst (λ (g : List DataRecord). OnOk c.give.result (c.give.new.self.given ≡ g ++ flat_map (passed_by slot.plan) part)) (c.in_ok-place.ensures.given ∙ ap (λ (p : PlansOf). p.given) c.self.view_is) (c.give.ensures.given slot at))

pub returns-clause-decision : goal.returns-clause-decision
returns-clause-decision c = λ i low high.
    let slot = c.in_ok-slot.slot in
    let at = c.in_ok-place.ensures.put.there in
    subst (λ (o : Outcome). IfOk c.give.result (λ (d : Decision). d ≡ decision_of o)) (exact c slot i low high at).exact (c.give.ensures.decision slot (record_at c.args.run.now i).values at)
