-- What is read is in the grammar.
use Rattle.std.proofs.Common.{inl, inr, ◌⊎◌, ◌≡◌, ℕ, zero, suc, ◌+◌, ◌-◌, ◌<◌, ◌≤◌, Bool, true, false, cond, ltb, eqb, List, [], ◌∷◌, ◌++◌, length, take, drop, Option, Some, None, Result, Ok, Err, refl, sym, ap, subst, ◌∙◌, append_assoc, arith, length-append, length-drop}
use Rattle.std.specs.Prelude.{◌||◌, MatchBool}
use Rattle.std.proofs.Math.Seq.{take-add}
use Rattle.std.proofs.lemmas.Bool.{ltb-true, ltb-false, eqb-true, or_parts}
use Rattle.std.proofs.lemmas.List.{take-append-drop, length-take-le, drop-drop, nil_from_length}
use Rattle.sequences.proofs.SequenceLaws.{read_all-step}
use Rattle.ipfix_template.specs.Octets.{number_at, IsNumberIn}
use Rattle.ipfix_template.specs.Sequence.{Front, End, Fault, Next, with_front, read_on, read_all}
use Rattle.ipfix_template.specs.declared.field.FieldSpec.{FieldSpec}
use Rattle.ipfix_template.specs.declared.template.Template.{Template}
use Rattle.sequences.specs.Options.{◌>>=◌}
use Rattle.sequences.proofs.OptionLaws.{bind_some}
use Rattle.sequences.proofs.ResultLaws.{same_Ok}
use Rattle.std.proofs.lemmas.Option.{none-some, same_Some}
use Rattle.ipfix_message.proofs.ReadingSteps.{read_items, read_head}
use Rattle.ipfix_message.specs.declared.header.Header.{Header}
use Rattle.ipfix_message.specs.declared.fault.Fault.{Fault as DecodeError}
use Rattle.ipfix_message.specs.declared.fault.Fault.TheVariants.{ShortHeader, BadVersion, BadLength, BadSetLength}
use Rattle.ipfix_message.specs.declared.item.Item.{Item}
use Rattle.ipfix_message.specs.declared.item.Item.TheVariants as items
use Rattle.ipfix_message.specs.Records.{bare_item, template_item}
use Rattle.ipfix_message.specs.Grammar.{SpellsSpecifier, AreSpecifiers, IsBody, IsTemplateRecord, AreTemplateRecords, IsContent, IsSet, AreSets, IsHeader, IsMessage}
use Rattle.ipfix_message.specs.Reading.{header_of, read_header, field_at, fields_at, scoped_at, template_at, found_template, template_front, set_items, found_set, set_front, after_header, items_of}
use Rattle.ipfix_message.proofs.Shrinks.{template_takes, set_takes}

-- a test that chose a side
chosen : {A : Type 0} (b : Bool) (x y z : A) → cond b x y ≡ z → ((b ≡ true) × (x ≡ z)) ⊎ ((b ≡ false) × (y ≡ z))
chosen true x y z e = inl (refl, e)
chosen false x y z e = inr (refl, e)

-- ---- numbers

-- the octets of a number that is there
number_here : (place width : ℕ) (octets : List ℕ) → place + width ≤ length octets → IsNumberIn width (take width (drop place octets)) (number_at place width octets)
number_here place width octets fits = record { wide = length-take-le width (drop place octets) (omega (arith, length-drop place octets)); value = refl }

-- ---- Field Specifiers

abbrev IsField : List ℕ → FieldSpec × List ℕ → Type 0
IsField octets found = (text : List ℕ) × (octets ≡ text ++ found.1) × SpellsSpecifier text found.0

plain_found : (octets : List ℕ) → 4 ≤ length octets → number_at 0 2 octets < 32768 → IsField octets (record { element = record { pen = None; number = number_at 0 2 octets }; length = number_at 2 2 octets }, drop 4 octets)
plain_found octets four small = (
  take 4 octets,
  sym (take-append-drop 4 octets),
  (take 2 octets, take 2 (drop 2 octets), take-add 2 2 octets, number_here 0 2 octets (omega arith), small, number_here 2 2 octets (omega arith)),
)

marked_found : (octets : List ℕ) → 8 ≤ length octets → 32768 ≤ number_at 0 2 octets → IsField octets (record { element = record { pen = Some (number_at 4 4 octets); number = number_at 0 2 octets - 32768 }; length = number_at 2 2 octets }, drop 8 octets)
marked_found octets eight large =
    let number = number_here 0 2 octets (omega arith) in
    let parts : take 8 octets ≡ take 2 octets ++ (take 2 (drop 2 octets) ++ take 4 (drop 4 octets)) =
    take-add 2 6 octets ∙ ap (λ (t : List ℕ). take 2 octets ++ t) (take-add 2 4 (drop 2 octets) ∙ ap (λ (t : List ℕ). take 2 (drop 2 octets) ++ take 4 t) (drop-drop 2 2 octets)) in (
      take 8 octets,
      sym (take-append-drop 8 octets),
      (take 2 octets, take 2 (drop 2 octets), take 4 (drop 4 octets), parts, record { wide = number.wide; value = omega (arith, number.value) }, number_here 2 2 octets (omega arith), number_here 4 4 octets (omega arith)),
    )

field_found : (octets : List ℕ) (found : FieldSpec × List ℕ) → field_at octets ≡ Some found → IsField octets found
unfolding field_at
field_found octets found e =
    let number = number_at 0 2 octets in
    let plain : FieldSpec × List ℕ = (record { element = record { pen = None; number = number }; length = number_at 2 2 octets }, drop 4 octets) in
    let marked : FieldSpec × List ℕ = (record { element = record { pen = Some (number_at 4 4 octets); number = number - 32768 }; length = number_at 2 2 octets }, drop 8 octets) in
    let inner = cond (ltb number 32768) (Some plain) (cond (ltb (length octets) 8) None (Some marked)) in
    elim (chosen (ltb (length octets) 4) None inner (Some found) e) [
      | inl short ↦ absurd (none-some found short.1)
      | inr long ↦
          let four = ltb-false _ _ long.0 in
          elim (chosen (ltb number 32768) (Some plain) (cond (ltb (length octets) 8) None (Some marked)) (Some found) long.1) [
            | inl is ↦ subst (IsField octets) (same_Some plain found is.1) (plain_found octets four (ltb-true _ _ is.0))
            | inr is ↦
                elim (chosen (ltb (length octets) 8) None (Some marked) (Some found) is.1) [
                  | inl short ↦ absurd (none-some found short.1)
                  | inr more ↦ subst (IsField octets) (same_Some marked found more.1) (marked_found octets (ltb-false _ _ more.0) (ltb-false _ _ is.0))
                ]
          ]
    ]

abbrev AreFields : ℕ → List ℕ → List FieldSpec × List ℕ → Type 0
AreFields count octets found = (text : List ℕ) × (octets ≡ text ++ found.1) × (length found.0 ≡ count) × AreSpecifiers text found.0

fields_found : (count : ℕ) (octets : List ℕ) (found : List FieldSpec × List ℕ) → fields_at count octets ≡ Some found → AreFields count octets found
unfolding fields_at
fields_found zero octets found e = subst (AreFields 0 octets) (same_Some {A = List FieldSpec × List ℕ} ([], octets) found e) ([], refl, refl, refl)
fields_found (suc count) octets found e =
    let first = bind_some (field_at octets) (λ field. fields_at count field.1 >>= λ others. Some (field.0 ∷ others.0, others.1)) found e in
    let field = first.0 in
    let second = bind_some (fields_at count field.1) (λ others. Some (field.0 ∷ others.0, others.1)) found first.2 in
    let others = second.0 in
    let here = field_found octets field first.1 in
    let more = fields_found count field.1 others second.1 in
    let parts : octets ≡ (here.0 ++ more.0) ++ others.1 = here.1 ∙ ap (λ (t : List ℕ). here.0 ++ t) more.1 ∙ sym (append_assoc here.0 more.0 others.1) in
    subst (AreFields (suc count) octets) (same_Some {A = List FieldSpec × List ℕ} (field.0 ∷ others.0, others.1) found second.2)
    (here.0 ++ more.0, parts, omega (arith, more.2), (here.0, more.0, refl, here.2, more.3))

-- ---- template records

abbrev IsWhole : Bool → ℕ → List ℕ → Template × List ℕ → Type 0
IsWhole options count octets found = (text : List ℕ) × (octets ≡ text ++ found.1) × (length found.0.fields ≡ count) × IsBody options text found.0

abbrev IsScoped : ℕ → ℕ → List ℕ → Template × List ℕ → Type 0
IsScoped scope count octets found = (text : List ℕ) × (octets ≡ text ++ found.1) × (length found.0.fields ≡ count) × (found.0.scope ≡ scope) × AreSpecifiers text found.0.fields

scoped_found : (scope count : ℕ) (octets : List ℕ) (found : Template × List ℕ) → scoped_at scope count octets ≡ Some found → IsScoped scope count octets found
unfolding scoped_at
scoped_found scope count octets found e =
    let first = bind_some (fields_at count octets) (λ fields. Some (record { fields = fields.0; scope = scope }, fields.1)) found e in
    let fields = first.0 in
    let here = fields_found count octets fields first.1 in
    subst (IsScoped scope count octets) (same_Some {A = Template × List ℕ} (record { fields = fields.0; scope = scope }, fields.1) found first.2) (here.0, here.1, here.2, refl, here.3)

template_found : (options : Bool) (count : ℕ) (octets : List ℕ) (found : Template × List ℕ) → template_at options count octets ≡ Some found → IsWhole options count octets found
unfolding template_at
template_found false count octets found e =
    let here = scoped_found 0 count octets found e in
    (here.0, here.1, here.2, (here.3, here.4))
template_found true count octets found e =
    elim (chosen (ltb (length octets) 2) None (scoped_at (number_at 0 2 octets) count (drop 2 octets)) (Some found) e) [
      | inl short ↦ absurd (none-some found short.1)
      | inr long ↦
          let two = ltb-false _ _ long.0 in
          let here = scoped_found (number_at 0 2 octets) count (drop 2 octets) found long.1 in
          let scope = number_here 0 2 octets two in
          let parts : octets ≡ (take 2 octets ++ here.0) ++ found.1 = sym (take-append-drop 2 octets) ∙ ap (λ (t : List ℕ). take 2 octets ++ t) here.1 ∙ sym (append_assoc (take 2 octets) here.0 found.1) in
          (take 2 octets ++ here.0, parts, here.2, (take 2 octets, here.0, refl, record { wide = scope.wide; value = sym here.3 }, here.4))
    ]

abbrev TemplateFront : Type 0
TemplateFront = Front Item DecodeError

-- what stands at the front of a set of templates: padding, or a record
abbrev IsTemplateFront : Bool → List ℕ → TemplateFront → Type 0
IsTemplateFront options octets End = length octets < 4
IsTemplateFront options octets (Fault e) = Unit {0}
IsTemplateFront options octets (Next found rest) = (text : List ℕ) × (item : Item) × (found ≡ item ∷ []) × (octets ≡ text ++ rest) × IsTemplateRecord options text item

-- the head of a record, ID and Field Count, and what follows
head_parts : (octets text rest : List ℕ) → drop 4 octets ≡ text ++ rest → octets ≡ (take 2 octets ++ (take 2 (drop 2 octets) ++ text)) ++ rest
head_parts octets text rest e =
    sym (take-append-drop 4 octets) ∙ ap (λ (t : List ℕ). t ++ drop 4 octets) (take-add 2 2 octets) ∙ ap (λ (t : List ℕ). (take 2 octets ++ take 2 (drop 2 octets)) ++ t) e
    ∙ sym (append_assoc (take 2 octets ++ take 2 (drop 2 octets)) text rest) ∙ ap (λ (t : List ℕ). t ++ rest) (append_assoc (take 2 octets) (take 2 (drop 2 octets)) text)

count_found : (options : Bool) (octets : List ℕ) (none : Bool) → 4 ≤ length octets → eqb (number_at 2 2 octets) 0 ≡ none
    → IsTemplateFront options octets (cond none (Next (bare_item options (number_at 0 2 octets) ∷ []) (drop 4 octets)) (found_template options (number_at 0 2 octets) (template_at options (number_at 2 2 octets) (drop 4 octets))))
count_found options octets true four e = (
  take 2 octets ++ (take 2 (drop 2 octets) ++ []),
  bare_item options (number_at 0 2 octets),
  refl,
  head_parts octets [] (drop 4 octets) refl,
  (take 2 octets, take 2 (drop 2 octets), [], number_at 0 2 octets, number_at 2 2 octets, refl, number_here 0 2 octets (omega arith), number_here 2 2 octets (omega arith), rw e (refl, refl)),
)
count_found options octets false four e = by_template (template_at options (number_at 2 2 octets) (drop 4 octets)) refl where
  by_template : (r : Option (Template × List ℕ)) → template_at options (number_at 2 2 octets) (drop 4 octets) ≡ r → IsTemplateFront options octets (found_template options (number_at 0 2 octets) r)
  by_template None is = tt
  by_template (Some found) is =
      let here = template_found options (number_at 2 2 octets) (drop 4 octets) found is in (
        take 2 octets ++ (take 2 (drop 2 octets) ++ here.0),
        template_item options (number_at 0 2 octets) found.0,
        refl,
        head_parts octets here.0 found.1 here.1,
        (take 2 octets, take 2 (drop 2 octets), here.0, number_at 0 2 octets, number_at 2 2 octets, refl, number_here 0 2 octets (omega arith), number_here 2 2 octets (omega arith), rw e (found.0, here.2, here.3, refl)),
      )

template_front_found : (options : Bool) (octets : List ℕ) → IsTemplateFront options octets (template_front options octets)
unfolding template_front
template_front_found options octets = by_length (ltb (length octets) 4) refl where
  by_length : (short : Bool) → ltb (length octets) 4 ≡ short → IsTemplateFront options octets (cond short End (cond (eqb (number_at 2 2 octets) 0) (Next (bare_item options (number_at 0 2 octets) ∷ []) (drop 4 octets)) (found_template options (number_at 0 2 octets) (template_at options (number_at 2 2 octets) (drop 4 octets)))))
  by_length true e = ltb-true _ _ e
  by_length false e = count_found options octets (eqb (number_at 2 2 octets) 0) (ltb-false _ _ e) refl

-- items behind others that were read
with_ok : (before : List Item) (r : Result (List Item) DecodeError) (found : List Item) → with_front before r ≡ read_items found → (others : List Item) × (r ≡ read_items others) × (before ++ others ≡ found)
with_ok before (Ok others) found e = (others, refl, same_Ok (before ++ others) found e)
with_ok before (Err d) found e = absurd cc

-- what follows is read, where it is shorter
abbrev RecordsBelow : Bool → ℕ → Type 0
RecordsBelow options n = (octets : List ℕ) (found : List Item) → length octets < n → read_all (template_front options) octets ≡ read_items found → AreTemplateRecords options octets found

records_by : (options : Bool) (n : ℕ) (octets : List ℕ) (found : List Item) (front : TemplateFront) → RecordsBelow options n → IsTemplateFront options octets front → ((items : List Item) (rest : List ℕ) → front ≡ Next items rest → length rest < n) → read_on front (read_all (template_front options)) ≡ read_items found → AreTemplateRecords options octets found
records_by options n octets found End again is smaller e = subst (AreTemplateRecords options octets) (same_Ok [] found e) is
records_by options n octets found (Fault fault) again is smaller e = absurd cc
records_by options n octets found (Next items rest) again is smaller e =
    let w = with_ok items (read_all (template_front options) rest) found e in
    let others = again rest w.0 (smaller items rest refl) w.1 in
    let whole : is.1 ∷ w.0 ≡ found = ap (λ (t : List Item). t ++ w.0) (sym is.2) ∙ w.2 in
    subst (AreTemplateRecords options octets) whole (is.0, rest, is.3, is.4, others)

-- the records of a set of templates, and padding
records_within : (n : ℕ) (options : Bool) → RecordsBelow options n
records_within zero options octets found less e = absurd (omega arith)
records_within (suc n) options octets found less e =
    records_by options n octets found (template_front options octets) (records_within n options) (template_front_found options octets)
    (λ items rest at. let shorter = template_takes options octets rest items at in omega (arith, shorter, less))
    (sym (read_all-step (template_front options) (template_takes options) octets) ∙ e)

records_found : (options : Bool) (octets : List ℕ) (found : List Item) → read_all (template_front options) octets ≡ read_items found → AreTemplateRecords options octets found
records_found options octets found e = records_within (suc (length octets)) options octets found (omega arith) e

-- ---- sets

content_by : (id place : ℕ) (content : List ℕ) (found : List Item) (templates options reserved : Bool) → cond templates (read_all (template_front false) content) (cond options (read_all (template_front true) content) (cond reserved (read_items (items.Skipped id ∷ [])) (read_items (items.DataSet id place (length content) ∷ [])))) ≡ read_items found
    → MatchBool templates (AreTemplateRecords false content found) (MatchBool options (AreTemplateRecords true content found) (MatchBool reserved (found ≡ items.Skipped id ∷ []) (found ≡ items.DataSet id place (length content) ∷ [])))
content_by id place content found true options reserved e = records_found false content found e
content_by id place content found false true reserved e = records_found true content found e
content_by id place content found false false true e = sym (same_Ok _ found e)
content_by id place content found false false false e = sym (same_Ok _ found e)

content_found : (id place : ℕ) (content : List ℕ) (found : List Item) → set_items id place content ≡ read_items found → IsContent id place content found
unfolding set_items
content_found id place content found e = content_by id place content found (eqb id 2) (eqb id 3) (ltb id 256) e

-- what stands at the front of the sets: the end of the message, or a set
abbrev IsSetFront : ℕ → List ℕ → TemplateFront → Type 0
IsSetFront total octets End = octets ≡ []
IsSetFront total octets (Fault e) = Unit {0}
IsSetFront total octets (Next found rest) = (text : List ℕ) × (octets ≡ text ++ rest) × IsSet (total - length octets) text found

set_here : (total : ℕ) (octets : List ℕ) (r : Result (List Item) DecodeError) → 4 ≤ number_at 2 2 octets → number_at 2 2 octets ≤ length octets
    → set_items (number_at 0 2 octets) (total - length octets + 4) (take (number_at 2 2 octets - 4) (drop 4 octets)) ≡ r → IsSetFront total octets (found_set r (drop (number_at 2 2 octets) octets))
set_here total octets (Err e) least most is = tt
set_here total octets (Ok found) least most is =
    let len = number_at 2 2 octets in
    let content = take (len - 4) (drop 4 octets) in
    let number = number_here 2 2 octets (omega arith) in
    let wide : length (take len octets) ≡ len = length-take-le len octets most in
    let parts : take len octets ≡ take 2 octets ++ (take 2 (drop 2 octets) ++ content) =
    ap (λ n. take n octets) (omega arith) ∙ take-add 4 (len - 4) octets ∙ ap (λ (t : List ℕ). t ++ content) (take-add 2 2 octets) ∙ append_assoc (take 2 octets) (take 2 (drop 2 octets)) content in (
      take len octets,
      sym (take-append-drop len octets),
      (take 2 octets, take 2 (drop 2 octets), content, number_at 0 2 octets, parts, number_here 0 2 octets (omega arith), record { wide = number.wide; value = number.value ∙ sym wide }, content_found (number_at 0 2 octets) (total - length octets + 4) content found is),
    )

set_front_found : (total : ℕ) (octets : List ℕ) → IsSetFront total octets (set_front total octets)
unfolding set_front
set_front_found total octets =
    by_end (eqb (length octets) 0) (ltb (length octets) 4) (ltb (number_at 2 2 octets) 4 || ltb (length octets) (number_at 2 2 octets)) refl refl where
      by_end : (none short outside : Bool) → eqb (length octets) 0 ≡ none → (ltb (number_at 2 2 octets) 4 || ltb (length octets) (number_at 2 2 octets)) ≡ outside
          → IsSetFront total octets (cond none End (cond short (Fault BadSetLength) (cond outside (Fault BadSetLength) (found_set (set_items (number_at 0 2 octets) (total - length octets + 4) (take (number_at 2 2 octets - 4) (drop 4 octets))) (drop (number_at 2 2 octets) octets)))))
      by_end true short outside e f = nil_from_length octets (eqb-true _ _ e)
      by_end false true outside e f = tt
      by_end false false true e f = tt
      by_end false false false e f =
          let both = or_parts (ltb (number_at 2 2 octets) 4) (ltb (length octets) (number_at 2 2 octets)) f in
          set_here total octets (set_items (number_at 0 2 octets) (total - length octets + 4) (take (number_at 2 2 octets - 4) (drop 4 octets))) (ltb-false _ _ both.0) (ltb-false _ _ both.1) refl

-- what follows is read, where it is shorter
abbrev SetsBelow : ℕ → ℕ → Type 0
SetsBelow total n = (place : ℕ) (octets : List ℕ) (found : List Item) → length octets < n → total ≡ place + length octets → read_all (set_front total) octets ≡ read_items found → (sets : ℕ) × AreSets sets place octets found

sets_by : (total n place : ℕ) (octets : List ℕ) (found : List Item) (front : TemplateFront) → total ≡ place + length octets → SetsBelow total n → IsSetFront total octets front → ((items : List Item) (rest : List ℕ) → front ≡ Next items rest → length rest < n) → read_on front (read_all (set_front total)) ≡ read_items found → (sets : ℕ) × AreSets sets place octets found
sets_by total n place octets found End sum again is smaller e = (0, (is, sym (same_Ok [] found e)))
sets_by total n place octets found (Fault fault) sum again is smaller e = absurd cc
sets_by total n place octets found (Next items rest) sum again is smaller e =
    let w = with_ok items (read_all (set_front total) rest) found e in
    let others = again (place + length is.0) rest w.0 (smaller items rest refl) (omega (arith, sum, ap length is.1, length-append is.0 rest)) w.1 in
    let here : total - length octets ≡ place = omega (arith, sum) in
    (suc others.0, (is.0, rest, items, w.0, is.1, sym w.2, subst (λ (p : ℕ). IsSet p is.0 items) here is.2, others.1))

sets_within : (n total : ℕ) → SetsBelow total n
sets_within zero total place octets found less sum e = absurd (omega arith)
sets_within (suc n) total place octets found less sum e =
    sets_by total n place octets found (set_front total octets) sum (sets_within n total) (set_front_found total octets)
    (λ items rest at. let shorter = set_takes total octets rest items at in omega (arith, shorter, less))
    (sym (read_all-step (set_front total) (set_takes total) octets) ∙ e)

-- ---- messages

header_here : (octets : List ℕ) → 16 ≤ length octets → number_at 0 2 octets ≡ 10 → number_at 2 2 octets ≡ length octets → IsHeader (take 16 octets) (length octets) (header_of octets)
header_here octets long version len =
    let parts : take 16 octets ≡ take 2 octets ++ (take 2 (drop 2 octets) ++ (take 4 (drop 4 octets) ++ (take 4 (drop 8 octets) ++ take 4 (drop 12 octets)))) =
    take-add 2 14 octets ∙ ap (λ (t : List ℕ). take 2 octets ++ t)
    (take-add 2 12 (drop 2 octets) ∙ ap (λ (t : List ℕ). take 2 (drop 2 octets) ++ t)
    (ap (take 12) (drop-drop 2 2 octets) ∙ take-add 4 8 (drop 4 octets) ∙ ap (λ (t : List ℕ). take 4 (drop 4 octets) ++ t)
    (ap (take 8) (drop-drop 4 4 octets) ∙ take-add 4 4 (drop 8 octets) ∙ ap (λ (t : List ℕ). take 4 (drop 8 octets) ++ take 4 t) (drop-drop 4 8 octets)))) in
    let first = number_here 0 2 octets (omega arith) in
    let second = number_here 2 2 octets (omega arith) in (
      take 2 octets,
      take 2 (drop 2 octets),
      take 4 (drop 4 octets),
      take 4 (drop 8 octets),
      take 4 (drop 12 octets),
      parts,
      record { wide = first.wide; value = version },
      record { wide = second.wide; value = len },
      number_here 4 4 octets (omega arith),
      number_here 8 4 octets (omega arith),
      number_here 12 4 octets (omega arith),
    )

header_found : (octets : List ℕ) (h : Header) → read_header octets ≡ read_head h → (16 ≤ length octets) × IsHeader (take 16 octets) (length octets) h
unfolding read_header
header_found octets h e = by_tests (ltb (length octets) 16) (eqb (number_at 0 2 octets) 10) (eqb (number_at 2 2 octets) (length octets)) refl refl refl e where
  by_tests : (short version whole : Bool) → ltb (length octets) 16 ≡ short → eqb (number_at 0 2 octets) 10 ≡ version → eqb (number_at 2 2 octets) (length octets) ≡ whole
      → cond short (Err ShortHeader) (cond version (cond whole (read_head (header_of octets)) (Err BadLength)) (Err BadVersion)) ≡ read_head h → (16 ≤ length octets) × IsHeader (take 16 octets) (length octets) h
  by_tests true version whole a b c is = absurd cc
  by_tests false false whole a b c is = absurd cc
  by_tests false true false a b c is = absurd cc
  by_tests false true true a b c is =
      let long = ltb-false _ _ a in
      (long, subst (IsHeader (take 16 octets) (length octets)) (same_Ok (header_of octets) h is) (header_here octets long (eqb-true _ _ b) (eqb-true _ _ c)))

-- what is read as a message is one of the grammar
pub message_found : (octets : List ℕ) (found : List Item) → items_of octets ≡ read_items found → (h : Header) × IsMessage octets h found
unfolding items_of
message_found octets found e = by_header (read_header octets) refl e where
  by_header : (r : Result Header DecodeError) → read_header octets ≡ r → after_header octets r ≡ read_items found → (h : Header) × IsMessage octets h found
  by_header (Err fault) is read = absurd cc
  by_header (Ok h) is read =
      let head = header_found octets h is in
      let sets = sets_within (suc (length (drop 16 octets))) (length octets) 16 (drop 16 octets) found (omega arith) (omega (arith, head.0, length-drop 16 octets)) read in
      let wide : length (take 16 octets) ≡ 16 = length-take-le 16 octets head.0 in
      (h, (take 16 octets, drop 16 octets, sets.0, sym (take-append-drop 16 octets), head.1, sets.1))
