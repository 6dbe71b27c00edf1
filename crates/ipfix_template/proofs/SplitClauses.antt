-- What a split answers, from what stands at the front.
use Rattle.std.proofs.Common.{◌≡◌, ℕ, ◌<◌, Bool, true, false, cond, ltb, List, [], ◌∷◌, ◌++◌, length, take, drop, Option, Some, None, refl, sym, ap, subst, ◌∙◌, arith, length-append, length-drop}
use Rattle.std.specs.Prelude.{◌↔◌}
use Rattle.std.proofs.lemmas.Bool.{ltb-true, ltb-false, le-ltb}
use Rattle.std.proofs.lemmas.List.{take_at}
use Rattle.sequences.specs.Octets.{AreOctets}
use Rattle.sequences.specs.Sequence.{Front, End, Next}
use Rattle.ipfix_template.specs.declared.template.Template.{Template}
use Rattle.ipfix_template.specs.declared.spans.Split.{Split}
use Rattle.ipfix_template.specs.declared.spans.Split.TheVariants.{Record, Padding, Overrun}
use Rattle.ipfix_template.specs.Template.{shortest_record}
use Rattle.ipfix_template.specs.Values.{Splits, values_at, found_record, record_front}
use Rattle.ipfix_template.specs.Shown.{values_shown, Shows, IsSplitBy, IsRecordFound, IsPadding}
use Rattle.ipfix_template.proofs.SplitLaws.{values_at-found, values_at-only, Splits-least, found_values}

abbrev pub RecordFront : Type 0
RecordFront = Front (List (List ℕ)) (Unit {0})

pub next_is : (short : Bool) (found : Option (List (List ℕ) × List ℕ)) (values : List (List ℕ)) (rest : List ℕ) → cond short End (found_record found) ≡ Next (values ∷ []) rest → found ≡ Some (values, rest)
next_is true found values rest e = absurd cc
next_is false None values rest e = absurd cc
next_is false (Some found) values rest e =
    let vs : found.0 ≡ values = cc in
    let r : found.1 ≡ rest = cc in
    ap (λ (a : List (List ℕ)). found_values (a, found.1)) vs ∙ ap (λ (b : List ℕ). found_values (values, b)) r

pub shows_split : (t : Template) (octets : List ℕ) → AreOctets octets → (s : Split) → Shows octets (record_front t octets) s → IsSplitBy t.fields octets s
unfolding record_front
shows_split t octets fits Padding h = tt
shows_split t octets fits Overrun h = tt
shows_split t octets fits (Record spans used) h =
    let values = values_shown octets spans.items in
    let at = next_is (ltb (length octets) (shortest_record t)) (values_at t.fields octets) values (drop used octets) h.0 in
    let found = values_at-found t.fields octets fits (values, drop used octets) at in
    let wide : length found.0 ≡ used = omega (arith, ap length found.1, length-append found.0 (drop used octets), length-drop used octets, h.2) in
    let front : found.0 ≡ take used octets = sym (take_at found.0 (drop used octets) used wide) ∙ ap (take used) (sym found.1) in
    subst (λ (t' : List ℕ). Splits t.fields t' values) front found.2

-- with a record of these values at the front, that is what stands there
pub front_is : (t : Template) (octets text rest : List ℕ) (values : List (List ℕ)) → octets ≡ text ++ rest → Splits t.fields text values → record_front t octets ≡ Next (values ∷ []) rest
unfolding record_front
front_is t octets text rest values parts is =
    let found = values_at-only t.fields text rest values is in
    let least = Splits-least t.fields text values is in
    let long : ltb (length octets) (shortest_record t) ≡ false = le-ltb _ _ (omega (arith, least, ap length parts, length-append text rest)) in
    rw (long, parts, found) refl

abbrev pub next_front : List (List ℕ) → List ℕ → RecordFront
next_front values rest = Next (values ∷ []) rest

shown_is : (octets text rest : List ℕ) (values : List (List ℕ)) (front : RecordFront) → octets ≡ text ++ rest → front ≡ next_front values rest → (s : Split) → Shows octets front s → IsRecordFound octets values (length text) s
shown_is octets text rest values front parts is Padding h = absurd cc
shown_is octets text rest values front parts is Overrun h = absurd cc
shown_is octets text rest values front parts is (Record spans used) h =
    let same : next_front (values_shown octets spans.items) (drop used octets) ≡ next_front values rest = sym h.0 ∙ is in
    let vs : values_shown octets spans.items ≡ values = cc in
    let rests : drop used octets ≡ rest = cc in
    (vs, omega (arith, ap length rests, ap length parts, length-append text rest, length-drop used octets, h.2))

pub shows_found : (t : Template) (octets text rest : List ℕ) (values : List (List ℕ)) → octets ≡ text ++ rest → Splits t.fields text values → (s : Split) → Shows octets (record_front t octets) s → IsRecordFound octets values (length text) s
shows_found t octets text rest values parts is s h = shown_is octets text rest values (record_front t octets) parts (front_is t octets text rest values parts is) s h

not_end : (found : Option (List (List ℕ) × List ℕ)) → found_record found ≡ End → ⊥
not_end None e = absurd cc
not_end (Some found) e = absurd cc

padding_is : (t : Template) (octets : List ℕ) (short : Bool) → ltb (length octets) (shortest_record t) ≡ short → (s : Split) → Shows octets (cond short End (found_record (values_at t.fields octets))) s → IsPadding s ↔ (length octets < shortest_record t)
padding_is t octets true is Padding h = (λ _. ltb-true _ _ is, λ _. tt)
padding_is t octets true is (Record spans used) h = absurd cc
padding_is t octets true is Overrun h = absurd cc
padding_is t octets false is Padding h = absurd (not_end (values_at t.fields octets) h)
padding_is t octets false is (Record spans used) h = (λ p. absurd p, λ lt. absurd (let long = ltb-false _ _ is in omega (arith, long)))
padding_is t octets false is Overrun h = (λ p. absurd p, λ lt. absurd (let long = ltb-false _ _ is in omega (arith, long)))

pub shows_padding : (t : Template) (octets : List ℕ) (s : Split) → Shows octets (record_front t octets) s → IsPadding s ↔ (length octets < shortest_record t)
unfolding record_front
shows_padding t octets s h = padding_is t octets (ltb (length octets) (shortest_record t)) refl s h
