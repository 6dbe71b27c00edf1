-- What a split shows of the octets that were split, and a measure of those that were measured.
use Rattle.std.specs.Prelude.{◌≡◌, ◌↔◌, true, ℕ, ◌+◌, ◌-◌, ◌≤◌, List, [], ◌∷◌, length, take, drop, map, All, Option, Some, None}
use Rattle.std.specs.Global.{Vec}
use Rattle.ipfix_octets.specs.Sequence.{Front, End, Fault, Next}
use Rattle.ipfix_template.specs.declared.field.FieldSpec.{FieldSpec}
use Rattle.ipfix_template.specs.declared.spans.Span.{Span}
use Rattle.ipfix_template.specs.declared.spans.Split.{Split}
use Rattle.ipfix_template.specs.declared.spans.Split.TheVariants.{Record, Padding, Overrun}
use Rattle.ipfix_template.specs.declared.spans.Extent.{Extent}
use Rattle.ipfix_template.specs.declared.spans.Extent.TheVariants as extent
use Rattle.ipfix_template.specs.declared.template.Template.{Template}
use Rattle.ipfix_template.specs.Values.{IsText, Splits, record_front, record_text, values_in}

abbrev pub octets_of : List ℕ → Span → List ℕ
octets_of octets span = take span.length (drop span.start octets)

abbrev pub values_shown : List ℕ → List Span → List (List ℕ)
values_shown octets spans = map (octets_of octets) spans

-- each span lies within the octets
abbrev pub AreWithin : List ℕ → List Span → Type 0
AreWithin octets spans = All (λ span. span.start + span.length ≤ length octets) spans

-- the answer is what stands at the front
abbrev pub Shows : List ℕ → Front (List (List ℕ)) (Unit {0}) → Split → Type 0
Shows octets front (Record spans used) = (front ≡ Next (values_shown octets spans.items ∷ []) (drop used octets)) × AreWithin octets spans.items × (used ≤ length octets)
Shows octets front Padding = front ≡ End
Shows octets front Overrun = front ≡ Fault tt

-- a record that is found is split so by the fields
abbrev pub IsSplitBy : List FieldSpec → List ℕ → Split → Type 0
IsSplitBy fields octets (Record spans used) = Splits fields (take used octets) (values_shown octets spans.items)
IsSplitBy fields octets Padding = Unit {0}
IsSplitBy fields octets Overrun = Unit {0}

-- from this place to the end the texts of the fields' values stand one after another, and each span is the end of its text
abbrev pub AreLaid : List FieldSpec → ℕ → List ℕ → List Span → ℕ → Type 0
AreLaid [] place octets [] end = place ≡ end
AreLaid (f ∷ fs) place octets (s ∷ spans) end =
    (place ≤ s.start) × IsText f (take (s.start + s.length - place) (drop place octets)) (octets_of octets s) × AreLaid fs (s.start + s.length) octets spans end
AreLaid [] place octets (s ∷ spans) end = ⊥
AreLaid (f ∷ fs) place octets [] end = ⊥

-- the spans of a record that is found lie where its values are
abbrev pub IsLaid : List FieldSpec → List ℕ → Split → Type 0
IsLaid fields octets (Record spans used) = AreLaid fields 0 octets spans.items used
IsLaid fields octets Padding = Unit {0}
IsLaid fields octets Overrun = Unit {0}

-- a record of these values is found, of so many octets
abbrev pub IsRecordFound : List ℕ → List (List ℕ) → ℕ → Split → Type 0
IsRecordFound octets values size (Record spans used) = (values_shown octets spans.items ≡ values) × (used ≡ size)
IsRecordFound octets values size Padding = ⊥
IsRecordFound octets values size Overrun = ⊥

abbrev pub IsPadding : Split → Type 0
IsPadding (Record spans used) = ⊥
IsPadding Padding = Unit {0}
IsPadding Overrun = ⊥

-- spans and the place after them, as the values and what follows
abbrev pub spans_shown : List ℕ → Option (Vec Span × ℕ) → Option (List (List ℕ) × List ℕ)
spans_shown octets None = None
spans_shown octets (Some found) = Some (values_shown octets found.0.items, drop found.1 octets)

abbrev pub AreFoundLaid : List FieldSpec → List ℕ → Option (Vec Span × ℕ) → Type 0
AreFoundLaid fields octets None = Unit {0}
AreFoundLaid fields octets (Some found) = AreLaid fields 0 octets found.0.items found.1

abbrev pub AreFoundWithin : List ℕ → Option (Vec Span × ℕ) → Type 0
AreFoundWithin octets None = Unit {0}
AreFoundWithin octets (Some found) = AreWithin octets found.0.items × (found.1 ≤ length octets)

-- the answer says what stands at the front: of a record how many octets it takes, and whether these are its values, each
-- in its shortest text
abbrev pub Measures : Template → List ℕ → Extent → Type 0
Measures t octets (extent.Record used is_shortest) =
    (record_front t octets ≡ Next (values_in t.fields octets ∷ []) (drop used octets)) × (used ≤ length octets)
    × ((is_shortest ≡ true) ↔ (take used octets ≡ record_text t.fields (values_in t.fields octets)))
Measures t octets extent.Padding = record_front t octets ≡ End
Measures t octets extent.Overrun = record_front t octets ≡ Fault tt

-- a record that is found is split by the fields, and its octets alone have the same values
abbrev pub IsMeasuredBy : List FieldSpec → List ℕ → Extent → Type 0
IsMeasuredBy fields octets (extent.Record used is_shortest) =
    Splits fields (take used octets) (values_in fields octets) × (values_in fields (take used octets) ≡ values_in fields octets)
IsMeasuredBy fields octets extent.Padding = Unit {0}
IsMeasuredBy fields octets extent.Overrun = Unit {0}

-- a record of so many octets is found
abbrev pub IsReach : ℕ → Extent → Type 0
IsReach size (extent.Record used is_shortest) = used ≡ size
IsReach size extent.Padding = ⊥
IsReach size extent.Overrun = ⊥
