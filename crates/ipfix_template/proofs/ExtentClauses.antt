-- What a measure answers, from what stands at the front.
use Rattle.std.proofs.Common.{◌≡◌, ℕ, ◌≤◌, ltb, List, [], ◌∷◌, ◌++◌, length, take, drop, sym, ap, subst, ◌∙◌, arith, length-append, length-drop}
use Rattle.std.proofs.lemmas.List.{take_at}
use Rattle.sequences.specs.Octets.{AreOctets}
use Rattle.sequences.specs.Sequence.{End, Fault, Next}
use Rattle.ipfix_template.specs.declared.template.Template.{Template}
use Rattle.ipfix_template.specs.declared.spans.Extent.{Extent}
use Rattle.ipfix_template.specs.declared.spans.Extent.TheVariants as extent
use Rattle.ipfix_template.specs.Template.{shortest_record}
use Rattle.ipfix_template.specs.Values.{Splits, values_at, values_in, record_front}
use Rattle.ipfix_template.specs.Shown.{Measures, IsMeasuredBy, IsReach}
use Rattle.ipfix_template.proofs.SplitLaws.{values_at-found}
use Rattle.ipfix_template.proofs.SplitClauses.{RecordFront, next_front, next_is, front_is}
use Rattle.ipfix_template.proofs.ReadingLaws.{values_in-whole}

-- what stands at the front is split by the fields
pub front_splits : (t : Template) (octets : List ℕ) (values : List (List ℕ)) (used : ℕ) → AreOctets octets → record_front t octets ≡ Next (values ∷ []) (drop used octets) → used ≤ length octets → Splits t.fields (take used octets) values
unfolding record_front
front_splits t octets values used fits front low =
    let at = next_is (ltb (length octets) (shortest_record t)) (values_at t.fields octets) values (drop used octets) front in
    let found = values_at-found t.fields octets fits (values, drop used octets) at in
    let wide : length found.0 ≡ used = omega (arith, ap length found.1, length-append found.0 (drop used octets), length-drop used octets, low) in
    let text : found.0 ≡ take used octets = sym (take_at found.0 (drop used octets) used wide) ∙ ap (take used) (sym found.1) in
    subst (λ (t' : List ℕ). Splits t.fields t' values) text found.2

pub measured_by : (t : Template) (octets : List ℕ) → AreOctets octets → (e : Extent) → Measures t octets e → IsMeasuredBy t.fields octets e
measured_by t octets fits extent.Padding m = tt
measured_by t octets fits extent.Overrun m = tt
measured_by t octets fits (extent.Record used short) m =
    let splits = front_splits t octets (values_in t.fields octets) used fits m.0 m.1 in
    (splits, values_in-whole t.fields (take used octets) (values_in t.fields octets) splits)

reach_of : (octets text rest : List ℕ) (values found : List (List ℕ)) (used : ℕ) (front : RecordFront) → octets ≡ text ++ rest → front ≡ next_front values rest → front ≡ next_front found (drop used octets) → used ≤ length octets → used ≡ length text
reach_of octets text rest values found used front parts is at low =
    let same : next_front found (drop used octets) ≡ next_front values rest = sym at ∙ is in
    let rests : drop used octets ≡ rest = cc in
    omega (arith, ap length rests, ap length parts, length-append text rest, length-drop used octets, low)

pub reached : (t : Template) (octets text rest : List ℕ) (values : List (List ℕ)) → octets ≡ text ++ rest → Splits t.fields text values → (e : Extent) → Measures t octets e → IsReach (length text) e
reached t octets text rest values parts is extent.Padding m = absurd (let at : record_front t octets ≡ next_front values rest = front_is t octets text rest values parts is in let none : End ≡ next_front values rest = sym m ∙ at in cc)
reached t octets text rest values parts is extent.Overrun m = absurd (let at : record_front t octets ≡ next_front values rest = front_is t octets text rest values parts is in let none : Fault tt ≡ next_front values rest = sym m ∙ at in cc)
reached t octets text rest values parts is (extent.Record used short) m =
    reach_of octets text rest values (values_in t.fields octets) used (record_front t octets) parts (front_is t octets text rest values parts is) m.0 m.1
