-- What a stream writes is in the grammar of messages.
use Rattle.std.proofs.Common.{◌≡◌, ℕ, ◌+◌, ◌<◌, ◌≤◌, ◌^◌, ◌%◌, Bool, true, false, cond, ltb, eqb, List, [], ◌∷◌, ◌++◌, length, Option, Some, None, refl, sym, ap, ◌∙◌, arith, length-append, append-nil}
use Rattle.std.specs.Prelude.{MatchBool, IfSome}
use Rattle.std.specs.List.{flat_map, sum_by, AllByRecursion}
use Rattle.std.proofs.lemmas.Bool.{le-ltb, ne_eqb}
use Rattle.ipfix_template.specs.DataRecord.{DataRecord}
use Rattle.std.proofs.lemmas.List.Concat.{flat_map-cons}
use Rattle.sequences.specs.Octets.{be_octets, IsNumberIn}
use Rattle.sequences.proofs.OctetLaws.{length-be_octets, be_value-be_octets}
use Rattle.ipfix_template.specs.declared.field.FieldSpec.{FieldSpec}
use Rattle.ipfix_template.specs.declared.template.Template.{Template}
use Rattle.ipfix_template.specs.Template.{least_octets, is_options, refusal_of, specifier_of, specifier, template_record, IsWritable}
use Rattle.ipfix_template.specs.Template as template
use Rattle.ipfix_message.specs.declared.header.Header.{Header}
use Rattle.ipfix_message.specs.declared.item.Item.{Item}
use Rattle.ipfix_message.specs.declared.item.Item.TheVariants as items
use Rattle.ipfix_message.specs.Records.{judged_item, template_item, bare_item}
use Rattle.ipfix_message.specs.Grammar.{IsSpecifierOf, AreSpecifiers, IsBody, IsTemplateRecord, IsContent, IsSet, AreSets, IsMessage}
use Rattle.ipfix_session.proofs.Soundness.{shortest_some}
use Rattle.subscriber_stream.specs.Parts.{Part}
use Rattle.subscriber_stream.specs.Message.{Set, Announces, Brings, sets_of, template_set, set_id, set_head, set_content, set_text, body, message}
use Rattle.subscriber_stream.proofs.Pieces.{accepted_under}
use Rattle.subscriber_stream.proofs.Messages.{length-message}
use Rattle.subscriber_stream.proofs.Bodies.{spelled, texts}
use Rattle.stream_meaning.proofs.Tables.{Table, defining, IsAnnounceable, AreBrought, AreWritten}

-- ---- numbers

number : (width n : ℕ) → n < 256 ^ width → IsNumberIn width (be_octets width n) n
number width n fits = record { wide = length-be_octets width n; value = be_value-be_octets width n fits }

-- ---- templates

specifier_by : (pen : Option ℕ) (n len : ℕ) → n < 32768 → IfSome pen (λ p. p < 2 ^ 32) → len < 2 ^ 16 → IsSpecifierOf pen (specifier_of pen n len) n len
specifier_by None n len low small short = (
  be_octets 2 n,
  be_octets 2 len,
  refl,
  number 2 n (omega arith),
  low,
  number 2 len (omega (arith, short)),
)
specifier_by (Some pen) n len low small short = (
  be_octets 2 (n + 32768),
  be_octets 2 len,
  be_octets 4 pen,
  refl,
  number 2 (n + 32768) (omega arith),
  number 2 len (omega (arith, short)),
  number 4 pen (omega (arith, small)),
)

specifiers_are : (fs : List FieldSpec) → AllByRecursion template.IsSpecifier fs → AreSpecifiers (flat_map specifier fs) fs
specifiers_are [] fit = refl
specifiers_are (f ∷ fs) fit = (
  specifier f,
  flat_map specifier fs,
  flat_map-cons specifier f fs,
  specifier_by f.element.pen f.element.number f.length fit.0.number fit.0.pen fit.0.len,
  specifiers_are fs fit.1,
)

-- what stands behind ID and Field Count
abbrev body_text : Bool → Template → List ℕ
body_text false t = flat_map specifier t.fields
body_text true t = be_octets 2 t.scope ++ flat_map specifier t.fields

body_is : (options : Bool) (t : Template) → IsWritable 256 options t → IsBody options (body_text options t) t
body_is false t fits = (fits.scope_of_plain refl, specifiers_are t.fields fits.fields)
body_is true t fits = (
  be_octets 2 t.scope,
  flat_map specifier t.fields,
  refl,
  number 2 t.scope (omega (arith, fits.scope_fits)),
  specifiers_are t.fields fits.fields,
)

record_parts : (id : ℕ) (options : Bool) (t : Template) → template_record id options t ≡ be_octets 2 id ++ (be_octets 2 (length t.fields) ++ body_text options t)
unfolding template_record
record_parts id false t = refl
record_parts id true t = refl

some_fields : (fs : List FieldSpec) → 0 < sum_by least_octets fs → 0 < length fs
some_fields [] some = some
some_fields (f ∷ fs) some = omega arith

abbrev RecordSays : Bool → ℕ → Bool → List ℕ → ℕ → Item → Type 0
RecordSays options id none text count item =
    MatchBool none
    ((text ≡ []) × (item ≡ bare_item options id))
    ((t : Template) × (length t.fields ≡ count) × IsBody options text t × (item ≡ template_item options id t))

says : (options : Bool) (id : ℕ) (t : Template) (none : Bool) → none ≡ false → IsWritable 256 options t → refusal_of id options t ≡ None → RecordSays options id none (body_text options t) (length t.fields) (items.Define id t)
says options id t false is fits accepted = (t, refl, body_is options t fits, sym (ap (judged_item id t) accepted))
says options id t true is fits accepted = absurd cc

template_is : (id : ℕ) (shape : Template) → IsAnnounceable id shape → IsTemplateRecord (is_options shape) (template_record id (is_options shape) shape) (items.Define id shape)
template_is id shape may =
    let some : 0 < length shape.fields = some_fields shape.fields (shortest_some shape may.accepted) in
    let none = ne_eqb (length shape.fields) 0 (λ e. omega (arith, e, some)) in
    let count : IsNumberIn 2 (be_octets 2 (length shape.fields)) (length shape.fields) = number 2 (length shape.fields) (omega (arith, may.writable.count_fits)) in (
      be_octets 2 id,
      be_octets 2 (length shape.fields),
      body_text (is_options shape) shape,
      id,
      length shape.fields,
      record_parts id (is_options shape) shape,
      number 2 id (omega (arith, may.high)),
      count,
      says (is_options shape) id shape (eqb (length shape.fields) 0) none may.writable (accepted_under id (is_options shape) shape may.low may.accepted),
    )

-- ---- sets

-- what a set at this place of a message says
abbrev pub item_of : ℕ → Set → Item
item_of place (Announces id shape) = items.Define id shape
item_of place (Brings id rs) = items.DataSet id (place + 4) (length (flat_map spelled rs))

abbrev pub items_at : ℕ → List Set → List Item
items_at place [] = []
items_at place (s ∷ sets) = item_of place s ∷ items_at (place + length (set_text s)) sets

template_content : (id place : ℕ) (options : Bool) (shape : Template) (item : Item) → IsTemplateRecord options (template_record id options shape) item → IsContent (cond options 3 2) place (template_record id options shape) (item ∷ [])
template_content id place false shape item is = (template_record id false shape, [], sym (append-nil (template_record id false shape)), is, omega arith)
template_content id place true shape item is = (template_record id true shape, [], sym (append-nil (template_record id true shape)), is, omega arith)

data_content : (id place : ℕ) (content : List ℕ) → 256 ≤ id → IsContent id place content (items.DataSet id place (length content) ∷ [])
data_content id place content low =
    let two : eqb id 2 ≡ false = ne_eqb id 2 (λ e. omega (arith, e, low)) in
    let three : eqb id 3 ≡ false = ne_eqb id 3 (λ e. omega (arith, e, low)) in
    let reserved : ltb id 256 ≡ false = le-ltb id 256 low in
    rw (two, three, reserved) refl

pub length-set_text : (s : Set) → length (set_text s) ≡ 4 + length (set_content s)
unfolding set_head
length-set_text s = length-append (set_head (set_id s) (length (set_content s))) (set_content s)

set_by : (s : Set) (place : ℕ) (item : Item) → set_id s < 65536 → length (set_text s) < 65536 → IsContent (set_id s) (place + 4) (set_content s) (item ∷ []) → IsSet place (set_text s) (item ∷ [])
unfolding set_head
set_by s place item id few content =
    let len = length-set_text s in
    let short : IsNumberIn 2 (be_octets 2 (4 + length (set_content s))) (length (set_text s)) = record { wide = length-be_octets 2 (4 + length (set_content s)); value = be_value-be_octets 2 (4 + length (set_content s)) (omega (arith, len, few)) ∙ sym len } in (
      be_octets 2 (set_id s),
      be_octets 2 (4 + length (set_content s)),
      set_content s,
      set_id s,
      refl,
      number 2 (set_id s) (omega (arith, id)),
      short,
      content,
    )

template_set-below : (shape : Template) → template_set shape < 65536
template_set-below shape = by_kind (is_options shape) where
  by_kind : (b : Bool) → cond b 3 2 < 65536
  by_kind true = omega arith
  by_kind false = omega arith

announces_is : (id place : ℕ) (shape : Template) → IsAnnounceable id shape → length (set_text (Announces id shape)) < 65536 → IsSet place (set_text (Announces id shape)) (items.Define id shape ∷ [])
announces_is id place shape may few =
    set_by (Announces id shape) place (items.Define id shape) (template_set-below shape) few (template_content id (place + 4) (is_options shape) shape (items.Define id shape) (template_is id shape may))

brings_is : (table : Table) (id place : ℕ) (rs : List DataRecord) → AreBrought table id rs → length (set_text (Brings id rs)) < 65536 → IsSet place (set_text (Brings id rs)) (item_of place (Brings id rs) ∷ [])
brings_is table id place rs are few =
    set_by (Brings id rs) place (item_of place (Brings id rs)) are.high few (data_content id (place + 4) (flat_map spelled rs) are.low)

-- a set, and the others behind it
set_more : (s : Set) (sets : List Set) (place : ℕ) → IsSet place (set_text s) (item_of place s ∷ []) → AreSets (length sets) (place + length (set_text s)) (texts sets) (items_at (place + length (set_text s)) sets) → AreSets (length (s ∷ sets)) place (texts (s ∷ sets)) (items_at place (s ∷ sets))
set_more s sets place one others = (set_text s, texts sets, item_of place s ∷ [], items_at (place + length (set_text s)) sets, refl, refl, one, others)

pub sets_are : (sets : List Set) (table : Table) (place : ℕ) → AreWritten table sets → length (texts sets) < 65536 → AreSets (length sets) place (texts sets) (items_at place sets)
sets_are [] table place all few = (refl, refl)
sets_are (Announces id shape ∷ sets) table place all few =
    let s = Announces id shape in
    let len = length-append (set_text s) (texts sets) in
    set_more s sets place (announces_is id place shape all.0 (omega (arith, few, len))) (sets_are sets (defining id shape table) (place + length (set_text s)) all.1 (omega (arith, few, len)))
sets_are (Brings id rs ∷ sets) table place all few =
    let s = Brings id rs in
    let len = length-append (set_text s) (texts sets) in
    set_more s sets place (brings_is table id place rs all.0 (omega (arith, few, len))) (sets_are sets table (place + length (set_text s)) all.1 (omega (arith, few, len)))

-- ---- the message

abbrev pub header_at : ℕ → ℕ → Header
header_at now handed = record { export_time = now; sequence = handed % 2 ^ 32; domain = 0 }

abbrev pub head : ℕ → ℕ → ℕ → List ℕ
head octets now handed = be_octets 2 10 ++ be_octets 2 octets ++ be_octets 4 now ++ be_octets 4 (handed % 2 ^ 32) ++ be_octets 4 0

pub message_is : (now handed : ℕ) (table : Table) (ps : List Part) → now < 2 ^ 32 → AreWritten table (sets_of ps) → length (message now handed ps) < 65536 → IsMessage (message now handed ps) (header_at now handed) (items_at 16 (sets_of ps))
unfolding message body
message_is now handed table ps time all few =
    let len = length-message now handed ps in
    let size = 16 + length (body ps) in
    let whole : IsNumberIn 2 (be_octets 2 size) (length (message now handed ps)) = record { wide = length-be_octets 2 size; value = be_value-be_octets 2 size (omega (arith, len, few)) ∙ sym len } in (
      head size now handed,
      texts (sets_of ps),
      length (sets_of ps),
      refl,
      (be_octets 2 10, be_octets 2 size, be_octets 4 now, be_octets 4 (handed % 2 ^ 32), be_octets 4 0, refl, number 2 10 (omega arith), whole, number 4 now (omega (arith, time)), number 4 (handed % 2 ^ 32) (omega arith), number 4 0 (omega arith)),
      sets_are (sets_of ps) table 16 all (omega (arith, len, few)),
    )
