-- What a message's items define may be kept, and its Data Sets lie within it.
use Rattle.std.proofs.Common.{◌≡◌, ℕ, zero, suc, ◌+◌, ◌-◌, ◌≤◌, Bool, true, false, cond, ltb, eqb, List, ◌∷◌, ◌++◌, length, take, drop, Option, Some, None, Result, Ok, Err, refl, ap, ◌∙◌, arith, length-append, length-drop}
use Rattle.std.specs.Prelude.{◌||◌, IfSome}
use Rattle.std.specs.List.{AllByRecursion, flat_map, list_all}
use Rattle.std.proofs.lemmas.Bool.{ltb-false, or_parts, cond_both}
use Rattle.std.proofs.lemmas.List.{length-take-le}
use Rattle.std.proofs.lemmas.List.Concat.{flat_map-cons}
use Rattle.sequences.specs.Octets.{be_octets, number_at}
use Rattle.sequences.specs.Sequence.{Front, End, Fault, Next, with_front, read_on, read_within, read_all, TakesSome}
use Rattle.sequences.proofs.OctetLaws.{length-be_octets}
use Rattle.ipfix_template.specs.declared.field.FieldSpec.{FieldSpec}
use Rattle.ipfix_template.specs.declared.template.Template.{Template}
use Rattle.ipfix_template.specs.declared.template.Refused.{Refused}
use Rattle.ipfix_template.specs.declared.template.Refused.TheVariants.{BadId, BadLength, BadScope, EmptyRecord}
use Rattle.ipfix_template.specs.Template.{specifier, specifier_of, record_head, template_record, has_allowed_length, has_bad_scope, refusal_of, is_options, shortest_record}
use Rattle.ipfix_message.specs.declared.header.Header.{Header}
use Rattle.ipfix_message.specs.declared.fault.Fault.{Fault as DecodeError}
use Rattle.ipfix_message.specs.declared.item.Item.{Item}
use Rattle.ipfix_message.specs.Records.{set_id, bare_item, judged_item}
use Rattle.ipfix_message.specs.Reading.{read_header, field_at, fields_at, scoped_at, template_at, found_template, template_front, set_items, found_set, set_front, after_header, items_of}
use Rattle.ipfix_message.proofs.Shrinks.{set_takes, template_takes}
use Rattle.sequences.specs.Options.{◌>>=◌}
use Rattle.sequences.proofs.ListLaws.{AllByRecursion-append}
use Rattle.ipfix_session.specs.Keeping.{IsKeepable, MayStandIn, StandIn}

-- ---- what holds of each item at the front holds of all that are read

abbrev AllFront : {A E : Type 0} → (A → Type 0) → Front A E → Type 0
AllFront P End = Unit {0}
AllFront P (Fault e) = Unit {0}
AllFront P (Next found rest) = AllByRecursion P found

abbrev AllRead : {A E : Type 0} → (A → Type 0) → Result (List A) E → Type 0
AllRead P (Ok found) = AllByRecursion P found
AllRead P (Err e) = Unit {0}

read_on_all : {A E : Type 0} (P : A → Type 0) (f : Front A E) (after : List ℕ → Result (List A) E) → AllFront P f → ((found : List A) (rest : List ℕ) → f ≡ Next found rest → AllRead P (after rest)) → AllRead P (read_on f after)
read_on_all P End after here others = tt
read_on_all P (Fault e) after here others = tt
read_on_all {A} {E} P (Next found rest) after here others = joined (after rest) (others found rest refl) where
  joined : (r : Result (List A) E) → AllRead P r → AllRead P (with_front found r)
  joined (Ok more) h = AllByRecursion-append P found more here h
  joined (Err e) h = tt

all_within : {A E : Type 0} (P : A → Type 0) (front : List ℕ → Front A E) (most : ℕ) → TakesSome front → ((octets : List ℕ) → length octets ≤ most → AllFront P (front octets)) → (steps : ℕ) (octets : List ℕ) → length octets ≤ most → AllRead P (read_within steps front octets)
unfolding read_within
all_within P front most takes each zero octets few = tt
all_within P front most takes each (suc steps) octets few =
    read_on_all P (front octets) (read_within steps front) (each octets few)
    (λ found rest e. let less = takes octets rest found e in all_within P front most takes each steps rest (omega (arith, less, few)))

pub all_read : {A E : Type 0} (P : A → Type 0) (front : List ℕ → Front A E) (most : ℕ) → TakesSome front → ((octets : List ℕ) → length octets ≤ most → AllFront P (front octets)) → (octets : List ℕ) → length octets ≤ most → AllRead P (read_all front octets)
unfolding read_all
all_read P front most takes each octets few = all_within P front most takes each (suc (length octets)) octets few

-- ---- a template's record is no longer than the octets that it was read from

abbrev Shorter : {A : Type 0} → (A → ℕ) → ℕ → Option (A × List ℕ) → Type 0
Shorter size total found = IfSome found (λ f. size f.0 + length f.1 ≤ total)

length-specifier : (pen : Option ℕ) (number len : ℕ) → length (specifier_of pen number len) ≤ 8
length-specifier None number len = omega (arith, length-append (be_octets 2 number) (be_octets 2 len), length-be_octets 2 number, length-be_octets 2 len)
length-specifier (Some pen) number len = omega (arith, length-append (be_octets 2 (number + 32768) ++ be_octets 2 len) (be_octets 4 pen), length-append (be_octets 2 (number + 32768)) (be_octets 2 len), length-be_octets 2 (number + 32768), length-be_octets 2 len, length-be_octets 4 pen)

length-registered : (number len : ℕ) → length (specifier_of None number len) ≡ 4
length-registered number len = omega (arith, length-append (be_octets 2 number) (be_octets 2 len), length-be_octets 2 number, length-be_octets 2 len)

abbrev specifier_size : FieldSpec → ℕ
specifier_size f = length (specifier f)

abbrev fields_size : List FieldSpec → ℕ
fields_size fs = length (flat_map specifier fs)

field_shorter : (octets : List ℕ) → Shorter specifier_size (length octets) (field_at octets)
unfolding field_at
field_shorter octets =
    cond_both (ltb (length octets) 4) _ _ (Shorter specifier_size (length octets)) (λ _. tt)
    (λ long. let four = ltb-false _ _ long in cond_both (ltb (number_at 0 2 octets) 32768) _ _ (Shorter specifier_size (length octets))
    (λ _. omega (arith, four, length-drop 4 octets, length-registered (number_at 0 2 octets) (number_at 2 2 octets)))
    (λ _. cond_both (ltb (length octets) 8) _ _ (Shorter specifier_size (length octets)) (λ _. tt)
    (λ longer. let eight = ltb-false _ _ longer in omega (arith, eight, length-drop 8 octets, length-specifier (Some (number_at 4 4 octets)) (number_at 0 2 octets - 32768) (number_at 2 2 octets)))))

fields_shorter : (count : ℕ) (octets : List ℕ) → Shorter fields_size (length octets) (fields_at count octets)
unfolding fields_at
fields_shorter zero octets = omega arith
fields_shorter (suc count) octets = first (λ rest. fields_shorter count rest) (field_at octets) (field_shorter octets) where
  others : (field : FieldSpec × List ℕ) (found : Option (List FieldSpec × List ℕ)) → specifier_size field.0 + length field.1 ≤ length octets → Shorter fields_size (length field.1) found → Shorter fields_size (length octets) (found >>= λ o. Some (field.0 ∷ o.0, o.1))
  others field None fits h = tt
  others field (Some o) fits h = omega (arith, fits, h, ap length (flat_map-cons specifier field.0 o.0), length-append (specifier field.0) (flat_map specifier o.0))

  first : ((rest : List ℕ) → Shorter fields_size (length rest) (fields_at count rest)) → (field : Option (FieldSpec × List ℕ)) → Shorter specifier_size (length octets) field → Shorter fields_size (length octets) (field >>= λ f. fields_at count f.1 >>= λ o. Some (f.0 ∷ o.0, o.1))
  first more None fits = tt
  first more (Some f) fits = others f (fields_at count f.1) fits (more f.1)

abbrev template_size : Template → ℕ
template_size t = fields_size t.fields

scoped_shorter : (scope count : ℕ) (octets : List ℕ) → Shorter template_size (length octets) (scoped_at scope count octets)
unfolding scoped_at
scoped_shorter scope count octets = found (fields_at count octets) (fields_shorter count octets) where
  found : (o : Option (List FieldSpec × List ℕ)) → Shorter fields_size (length octets) o → Shorter template_size (length octets) (o >>= λ fields. Some (record { fields = fields.0; scope = scope }, fields.1))
  found None h = tt
  found (Some o) h = h

-- the octets that an options template has for its scope
abbrev scope_size : Bool → ℕ
scope_size options = cond options 2 0

template_shorter : (options : Bool) (count : ℕ) (octets : List ℕ) → Shorter (λ t. scope_size options + template_size t) (length octets) (template_at options count octets)
unfolding template_at
template_shorter false count octets = weaker (scoped_at 0 count octets) (scoped_shorter 0 count octets) where
  weaker : (r : Option (Template × List ℕ)) → Shorter template_size (length octets) r → Shorter (λ t. 0 + template_size t) (length octets) r
  weaker None h = tt
  weaker (Some o) h = omega (arith, h)
template_shorter true count octets =
    cond_both (ltb (length octets) 2) _ _ (Shorter (λ t. 2 + template_size t) (length octets)) (λ _. tt)
    (λ long. weaker (ltb-false _ _ long) (scoped_at (number_at 0 2 octets) count (drop 2 octets)) (scoped_shorter (number_at 0 2 octets) count (drop 2 octets))) where
      weaker : 2 ≤ length octets → (r : Option (Template × List ℕ)) → Shorter template_size (length (drop 2 octets)) r → Shorter (λ t. 2 + template_size t) (length octets) r
      weaker long None h = tt
      weaker long (Some o) h = omega (arith, long, h, length-drop 2 octets)

head_size : (options : Bool) (t : Template) → length (record_head 256 options t) ≡ 4 + scope_size options
head_size true t = omega (arith, length-append (be_octets 2 256 ++ be_octets 2 (length t.fields)) (be_octets 2 t.scope), length-append (be_octets 2 256) (be_octets 2 (length t.fields)), length-be_octets 2 256, length-be_octets 2 (length t.fields), length-be_octets 2 t.scope)
head_size false t = omega (arith, length-append (be_octets 2 256) (be_octets 2 (length t.fields)), length-be_octets 2 256, length-be_octets 2 (length t.fields))

record_size : (options : Bool) (t : Template) → length (template_record 256 options t) ≡ 4 + scope_size options + template_size t
unfolding template_record
record_size options t = length-append (record_head 256 options t) (flat_map specifier t.fields) ∙ ap (λ (n : ℕ). n + template_size t) (head_size options t)

-- ---- a template that is defined is accepted

-- a template that is accepted under an ID in a kind of set is of that kind, and accepted
pub record OfItsKind (options : Bool) (t : Template) : Type 0 where
  pub kind : is_options t ≡ options
  pub accepted : refusal_of 256 options t ≡ None

scope_kind : (options : Bool) (t : Template) → has_bad_scope options t ≡ false → is_options t ≡ options
scope_kind false t e = e
scope_kind true t e = some (or_parts (eqb t.scope 0) (ltb (length t.fields) t.scope) e) where
  some : (eqb t.scope 0 ≡ false) × (ltb (length t.fields) t.scope ≡ false) → ltb 0 t.scope ≡ true
  some p = grind (arith, p.0)

kind_by : (low allowed scope empty : Bool) → cond low (Some BadId) (cond allowed (cond scope (Some BadScope) (cond empty (Some EmptyRecord) None)) (Some BadLength)) ≡ None → (scope ≡ false) × (cond allowed (cond scope (Some BadScope) (cond empty (Some EmptyRecord) None)) (Some BadLength) ≡ None)
kind_by false true false false e = (refl, refl)
kind_by true allowed scope empty e = absurd cc
kind_by false false scope empty e = absurd cc
kind_by false true true empty e = absurd cc
kind_by false true false true e = absurd cc

of_its_kind : (id : ℕ) (options : Bool) (t : Template) → refusal_of id options t ≡ None → OfItsKind options t
unfolding refusal_of
of_its_kind id options t e =
    let both = kind_by (ltb id 256) (list_all has_allowed_length t.fields) (has_bad_scope options t) (eqb (shortest_record t) 0) e in
    record { kind = scope_kind options t both.0; accepted = both.1 }

keepable_of : (id : ℕ) (options : Bool) (t : Template) → refusal_of id options t ≡ None → 24 + scope_size options + template_size t ≤ 65535 → IsKeepable t
keepable_of id options t accepted few =
    let own = of_its_kind id options t accepted in
    record {
      accepted = rw own.kind own.accepted;
      fits = rw own.kind (omega (arith, few, record_size options t));
    }

-- ---- the items of a set of templates

bare_stands : (total : ℕ) (options : Bool) (id : ℕ) → MayStandIn total (bare_item options id)
bare_stands total options id =
    cond_both (eqb id (set_id options)) _ _ (MayStandIn total) (λ _. tt) (λ _. cond_both (ltb id 256) _ _ (MayStandIn total) (λ _. tt) (λ _. tt))

judged_stands : (total id : ℕ) (options : Bool) (t : Template) (refused : Option Refused) → refusal_of id options t ≡ refused → 24 + scope_size options + template_size t ≤ 65535 → MayStandIn total (judged_item id t refused)
judged_stands total id options t None is few = keepable_of id options t is few
judged_stands total id options t (Some why) is few = tt

template_stands : (total : ℕ) (options : Bool) (octets : List ℕ) → length octets ≤ 65515 → AllFront (MayStandIn total) (template_front options octets)
unfolding template_front
template_stands total options octets few =
    cond_both (ltb (length octets) 4) _ _ (AllFront (MayStandIn total)) (λ _. tt)
    (λ long. cond_both (eqb (number_at 2 2 octets) 0) _ _ (AllFront (MayStandIn total))
    (λ _. (bare_stands total options (number_at 0 2 octets), tt))
    (λ _. found (ltb-false _ _ long) (template_at options (number_at 2 2 octets) (drop 4 octets)) (template_shorter options (number_at 2 2 octets) (drop 4 octets)))) where
      found : 4 ≤ length octets → (r : Option (Template × List ℕ)) → Shorter (λ t. scope_size options + template_size t) (length (drop 4 octets)) r → AllFront (MayStandIn total) (found_template options (number_at 0 2 octets) r)
      found long None h = tt
      found long (Some o) h = (judged_stands total (number_at 0 2 octets) options o.0 (refusal_of (number_at 0 2 octets) options o.0) refl (omega (arith, few, long, h, length-drop 4 octets)), tt)

-- ---- sets

content_stands : (total id place : ℕ) (content : List ℕ) → 20 ≤ place → place + length content ≤ total → total ≤ 65535 → AllRead (MayStandIn total) (set_items id place content)
unfolding set_items
content_stands total id place content low high few =
    cond_both (eqb id 2) _ _ (AllRead (MayStandIn total)) (λ _. all_read (MayStandIn total) (template_front false) 65515 (template_takes false) (template_stands total false) content (omega (arith, low, high, few)))
    (λ _. cond_both (eqb id 3) _ _ (AllRead (MayStandIn total)) (λ _. all_read (MayStandIn total) (template_front true) 65515 (template_takes true) (template_stands total true) content (omega (arith, low, high, few)))
    (λ _. cond_both (ltb id 256) _ _ (AllRead (MayStandIn total)) (λ _. (tt, tt)) (λ _. ((low, high), tt))))

set_stands : (total : ℕ) → total ≤ 65535 → 16 ≤ total → (octets : List ℕ) → length octets ≤ total - 16 → AllFront (MayStandIn total) (set_front total octets)
unfolding set_front
set_stands total few some octets within =
    cond_both (eqb (length octets) 0) _ _ (AllFront (MayStandIn total)) (λ _. tt)
    (λ _. cond_both (ltb (length octets) 4) _ _ (AllFront (MayStandIn total)) (λ _. tt)
    (λ _. cond_both (ltb (number_at 2 2 octets) 4 || ltb (length octets) (number_at 2 2 octets)) _ _ (AllFront (MayStandIn total)) (λ _. tt)
    (λ fits. found (set_items (number_at 0 2 octets) (total - length octets + 4) (take (number_at 2 2 octets - 4) (drop 4 octets))) (stands (or_parts (ltb (number_at 2 2 octets) 4) (ltb (length octets) (number_at 2 2 octets)) fits))))) where
      found : (r : Result (List Item) DecodeError) → AllRead (MayStandIn total) r → AllFront (MayStandIn total) (found_set r (drop (number_at 2 2 octets) octets))
      found (Ok said) h = h
      found (Err e) h = tt

      stands : (ltb (number_at 2 2 octets) 4 ≡ false) × (ltb (length octets) (number_at 2 2 octets) ≡ false) → AllRead (MayStandIn total) (set_items (number_at 0 2 octets) (total - length octets + 4) (take (number_at 2 2 octets - 4) (drop 4 octets)))
      stands both =
          let least = ltb-false _ _ both.0 in
          let most = ltb-false _ _ both.1 in
          let len : length (take (number_at 2 2 octets - 4) (drop 4 octets)) ≡ number_at 2 2 octets - 4 = length-take-le (number_at 2 2 octets - 4) (drop 4 octets) (omega (arith, least, most, length-drop 4 octets)) in
          content_stands total (number_at 0 2 octets) (total - length octets + 4) (take (number_at 2 2 octets - 4) (drop 4 octets)) (omega (arith, within, some)) (omega (arith, len, least, most, within, some)) few

-- ---- a message

read_stands : (octets : List ℕ) (header : Result Header DecodeError) → length octets ≤ 65535 → 16 ≤ length octets → AllRead (MayStandIn (length octets)) (after_header octets header)
read_stands octets (Err e) few some = tt
read_stands octets (Ok h) few some =
    all_read (MayStandIn (length octets)) (set_front (length octets)) (length octets - 16) (set_takes (length octets)) (set_stands (length octets) few some) (drop 16 octets) (omega (arith, length-drop 16 octets))

pub items_stand : (octets : List ℕ) (said : List Item) → length octets ≤ 65535 → 16 ≤ length octets → items_of octets ≡ Ok said → StandIn (length octets) said
unfolding items_of
items_stand octets said few some is = rw is at (read_stands octets (read_header octets) few some)
