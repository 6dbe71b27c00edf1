-- What is in the grammar is read.
use Rattle.std.proofs.Common.{◌≡◌, ℕ, zero, suc, ◌+◌, ◌-◌, Bool, true, false, cond, ltb, eqb, List, [], ◌∷◌, ◌++◌, length, take, drop, Option, Some, None, Ok, refl, sym, ap, subst, ◌∙◌, append_assoc, arith, length-append}
use Rattle.std.specs.Prelude.{MatchBool}
use Rattle.std.proofs.lemmas.Bool.{lt-ltb, le-ltb, eq-eqb, ne_eqb}
use Rattle.std.proofs.lemmas.List.{take_at, drop_at}
use Rattle.sequences.proofs.SequenceLaws.{read_all-step}
use Rattle.ipfix_template.specs.Octets.{be_value, number_at, IsNumberIn}
use Rattle.ipfix_template.specs.Sequence.{Front, End, Next, with_front, read_on, read_all}
use Rattle.ipfix_template.specs.declared.field.FieldSpec.{FieldSpec}
use Rattle.ipfix_template.specs.declared.template.Template.{Template}
use Rattle.ipfix_template.specs.SameTemplate.{field_of}
use Rattle.ipfix_message.proofs.FieldSteps.{found_fields}
use Rattle.ipfix_message.proofs.ReadingSteps.{read_items, read_head}
use Rattle.ipfix_message.specs.declared.header.Header.{Header}
use Rattle.ipfix_message.specs.declared.fault.Fault.{Fault}
use Rattle.ipfix_message.specs.declared.item.Item.{Item}
use Rattle.ipfix_message.specs.declared.item.Item.TheVariants as items
use Rattle.ipfix_message.specs.Records.{bare_item, template_item}
use Rattle.ipfix_message.specs.Grammar.{IsSpecifierOf, SpellsSpecifier, AreSpecifiers, IsBody, IsTemplateRecord, AreTemplateRecords, IsContent, IsSet, AreSets, IsHeader, IsMessage}
use Rattle.ipfix_message.specs.Reading.{read_header, field_at, fields_at, scoped_at, template_at, found_template, template_front, set_items, set_front, items_of}
use Rattle.ipfix_message.proofs.Shrinks.{template_takes, set_takes}

-- ---- numbers

-- the number at the front
pub first_number : (width n : ℕ) (a rest : List ℕ) → IsNumberIn width a n → number_at 0 width (a ++ rest) ≡ n
first_number width n a rest is = ap be_value (take_at a rest width is.wide) ∙ is.value

-- the number behind so many octets
pub next_number : (place width n : ℕ) (before a rest : List ℕ) → length before ≡ place → IsNumberIn width a n → number_at place width (before ++ (a ++ rest)) ≡ n
next_number place width n before a rest wide is =
    ap (λ (t : List ℕ). be_value (take width t)) (drop_at before (a ++ rest) place wide) ∙ first_number width n a rest is

-- ---- Field Specifiers

abbrev found_field : FieldSpec → List ℕ → Option (FieldSpec × List ℕ)
found_field f rest = Some (f, rest)

plain_only : (octets rest : List ℕ) (number len : ℕ) → IsSpecifierOf None octets number len → field_at (octets ++ rest) ≡ found_field (field_of None number len) rest
unfolding field_at
plain_only octets rest number len is =
    let a = is.0 in
    let b = is.1 in
    let joined : octets ++ rest ≡ a ++ (b ++ rest) = ap (λ (t : List ℕ). t ++ rest) is.2 ∙ append_assoc a b rest in
    let wide : length (a ++ b) ≡ 4 = omega (arith, length-append a b, is.3.wide, is.5.wide) in
    let after : drop 4 (a ++ (b ++ rest)) ≡ rest = ap (drop 4) (sym (append_assoc a b rest)) ∙ drop_at (a ++ b) rest 4 wide in
    let enough : ltb (length (a ++ (b ++ rest))) 4 ≡ false = le-ltb _ _ (omega (arith, length-append a (b ++ rest), length-append b rest, is.3.wide, is.5.wide)) in
    let plain : ltb number 32768 ≡ true = lt-ltb _ _ is.4 in
    rw (joined, enough, first_number 2 number a (b ++ rest) is.3, plain, next_number 2 2 len a b rest is.3.wide is.5, after) refl

enterprise_only : (octets rest : List ℕ) (pen number len : ℕ) → IsSpecifierOf (Some pen) octets number len → field_at (octets ++ rest) ≡ found_field (field_of (Some pen) number len) rest
unfolding field_at
enterprise_only octets rest pen number len is =
    let a = is.0 in
    let b = is.1 in
    let c = is.2 in
    let joined : octets ++ rest ≡ a ++ (b ++ (c ++ rest)) = ap (λ (t : List ℕ). t ++ rest) is.3 ∙ append_assoc a (b ++ c) rest ∙ ap (λ (t : List ℕ). a ++ t) (append_assoc b c rest) in
    let four : length (a ++ b) ≡ 4 = omega (arith, length-append a b, is.4.wide, is.5.wide) in
    let eight : length ((a ++ b) ++ c) ≡ 8 = omega (arith, length-append (a ++ b) c, four, is.6.wide) in
    let parts : a ++ (b ++ (c ++ rest)) ≡ (a ++ b) ++ (c ++ rest) = sym (append_assoc a b (c ++ rest)) in
    let after : drop 8 (a ++ (b ++ (c ++ rest))) ≡ rest = ap (drop 8) (parts ∙ sym (append_assoc (a ++ b) c rest)) ∙ drop_at ((a ++ b) ++ c) rest 8 eight in
    let all : length (a ++ (b ++ (c ++ rest))) ≡ 8 + length rest = omega (arith, length-append a (b ++ (c ++ rest)), length-append b (c ++ rest), length-append c rest, is.4.wide, is.5.wide, is.6.wide) in
    let enough : ltb (length (a ++ (b ++ (c ++ rest)))) 4 ≡ false = le-ltb _ _ (omega (arith, all)) in
    let long : ltb (length (a ++ (b ++ (c ++ rest)))) 8 ≡ false = le-ltb _ _ (omega (arith, all)) in
    let marked : ltb (number + 32768) 32768 ≡ false = le-ltb _ _ (omega arith) in
    let pen-at : number_at 4 4 (a ++ (b ++ (c ++ rest))) ≡ pen = ap (λ (t : List ℕ). number_at 4 4 t) parts ∙ next_number 4 4 pen (a ++ b) c rest four is.6 in
    let bare : number + 32768 - 32768 ≡ number = omega arith in
    rw (joined, enough, first_number 2 (number + 32768) a (b ++ (c ++ rest)) is.4, marked, long, pen-at, next_number 2 2 len a b (c ++ rest) is.4.wide is.5, after, bare) refl

field_by : (pen : Option ℕ) (octets rest : List ℕ) (number len : ℕ) → IsSpecifierOf pen octets number len → field_at (octets ++ rest) ≡ found_field (field_of pen number len) rest
field_by None octets rest number len is = plain_only octets rest number len is
field_by (Some pen) octets rest number len is = enterprise_only octets rest pen number len is

field_only : (f : FieldSpec) (octets rest : List ℕ) → SpellsSpecifier octets f → field_at (octets ++ rest) ≡ found_field f rest
field_only f octets rest is = field_by f.element.pen octets rest f.element.number f.length is

fields_only : (fs : List FieldSpec) (octets rest : List ℕ) → AreSpecifiers octets fs → fields_at (length fs) (octets ++ rest) ≡ found_fields fs rest
unfolding fields_at
fields_only [] octets rest is = ap (λ (t : List ℕ). found_fields [] (t ++ rest)) is
fields_only (f ∷ fs) octets rest is =
    let joined : octets ++ rest ≡ is.0 ++ (is.1 ++ rest) = ap (λ (t : List ℕ). t ++ rest) is.2 ∙ append_assoc is.0 is.1 rest in
    rw (joined, field_only f is.0 (is.1 ++ rest) is.3, fields_only fs is.1 rest is.4) refl

-- ---- template records

abbrev found_whole : Template → List ℕ → Option (Template × List ℕ)
found_whole t rest = Some (t, rest)

scoped_only : (t : Template) (octets rest : List ℕ) → AreSpecifiers octets t.fields → scoped_at t.scope (length t.fields) (octets ++ rest) ≡ found_whole t rest
unfolding scoped_at
scoped_only t octets rest is = rw (fields_only t.fields octets rest is) refl

body_only : (options : Bool) (t : Template) (octets rest : List ℕ) → IsBody options octets t → template_at options (length t.fields) (octets ++ rest) ≡ found_whole t rest
unfolding template_at
body_only false t octets rest is =
    ap (λ (n : ℕ). scoped_at n (length t.fields) (octets ++ rest)) (sym is.0) ∙ scoped_only t octets rest is.1
body_only true t octets rest is =
    let joined : octets ++ rest ≡ is.0 ++ (is.1 ++ rest) = ap (λ (t' : List ℕ). t' ++ rest) is.2 ∙ append_assoc is.0 is.1 rest in
    let enough : ltb (length (is.0 ++ (is.1 ++ rest))) 2 ≡ false = le-ltb _ _ (omega (arith, length-append is.0 (is.1 ++ rest), is.3.wide)) in
    rw (joined, enough, first_number 2 t.scope is.0 (is.1 ++ rest) is.3, drop_at is.0 (is.1 ++ rest) 2 is.3.wide) (scoped_only t is.1 rest is.4)

abbrev next_item : Item → List ℕ → Front Item Fault
next_item item rest = Next (item ∷ []) rest

by_count : (options : Bool) (id count : ℕ) (body rest : List ℕ) (item : Item) (none : Bool) → eqb count 0 ≡ none → MatchBool none ((body ≡ []) × (item ≡ bare_item options id)) ((t : Template) × (length t.fields ≡ count) × IsBody options body t × (item ≡ template_item options id t))
    → cond none (next_item (bare_item options id) (body ++ rest)) (found_template options id (template_at options count (body ++ rest))) ≡ next_item item rest
by_count options id count body rest item true e is =
    ap (λ (t : List ℕ). next_item (bare_item options id) (t ++ rest)) is.0 ∙ ap (λ (i : Item). next_item i rest) (sym is.1)
by_count options id count body rest item false e is =
    ap (λ (n : ℕ). found_template options id (template_at options n (body ++ rest))) (sym is.1)
    ∙ ap (found_template options id) (body_only options is.0 body rest is.2) ∙ ap (λ (i : Item). next_item i rest) (sym is.3)

padding : (options : Bool) (octets : List ℕ) → ltb (length octets) 4 ≡ true → template_front options octets ≡ End
unfolding template_front
padding options octets short = rw short refl

nothing_left : (total : ℕ) → set_front total [] ≡ End
unfolding set_front
nothing_left total = refl

-- a record of a set of templates stands at the front
record_only : (options : Bool) (octets rest : List ℕ) (item : Item) → IsTemplateRecord options octets item → template_front options (octets ++ rest) ≡ next_item item rest
unfolding template_front
record_only options octets rest item is =
    let a = is.0 in
    let b = is.1 in
    let body = is.2 in
    let id = is.3 in
    let count = is.4 in
    let joined : octets ++ rest ≡ a ++ (b ++ (body ++ rest)) = ap (λ (t : List ℕ). t ++ rest) is.5 ∙ append_assoc a (b ++ body) rest ∙ ap (λ (t : List ℕ). a ++ t) (append_assoc b body rest) in
    let four : length (a ++ b) ≡ 4 = omega (arith, length-append a b, is.6.wide, is.7.wide) in
    let enough : ltb (length (a ++ (b ++ (body ++ rest)))) 4 ≡ false = le-ltb _ _ (omega (arith, length-append a (b ++ (body ++ rest)), length-append b (body ++ rest), is.6.wide, is.7.wide)) in
    let after : drop 4 (a ++ (b ++ (body ++ rest))) ≡ body ++ rest = ap (drop 4) (sym (append_assoc a b (body ++ rest))) ∙ drop_at (a ++ b) (body ++ rest) 4 four in
    rw (joined, enough, first_number 2 id a (b ++ (body ++ rest)) is.6, next_number 2 2 count a b (body ++ rest) is.6.wide is.7, after)
    (by_count options id count body rest item (eqb count 0) refl is.8)

-- the records of a set of templates, and padding
records_only : (options : Bool) (found : List Item) (octets : List ℕ) → AreTemplateRecords options octets found → read_all (template_front options) octets ≡ Ok found
records_only options [] octets is =
    let short : ltb (length octets) 4 ≡ true = lt-ltb _ _ is in
    read_all-step (template_front options) (template_takes options) octets ∙ ap (λ f. read_on f (read_all (template_front options))) (padding options octets short)
records_only options (item ∷ found) octets is =
    let others = records_only options found is.1 is.4 in
    read_all-step (template_front options) (template_takes options) octets
    ∙ ap (λ f. read_on f (read_all (template_front options))) (ap (template_front options) is.2 ∙ record_only options is.0 is.1 item is.3)
    ∙ ap (with_front (item ∷ [])) others

-- ---- sets

content_by : (id place : ℕ) (content : List ℕ) (found : List Item) (templates options reserved : Bool) → eqb id 2 ≡ templates → eqb id 3 ≡ options → ltb id 256 ≡ reserved
    → MatchBool templates (AreTemplateRecords false content found) (MatchBool options (AreTemplateRecords true content found) (MatchBool reserved (found ≡ items.Skipped id ∷ []) (found ≡ items.DataSet id place (length content) ∷ [])))
    → set_items id place content ≡ read_items found
unfolding set_items
content_by id place content found true options reserved a b c is = rw a (records_only false found content is)
content_by id place content found false true reserved a b c is = rw (a, b) (records_only true found content is)
content_by id place content found false false true a b c is = rw (a, b, c) (ap read_items (sym is))
content_by id place content found false false false a b c is = rw (a, b, c) (ap read_items (sym is))

content_only : (id place : ℕ) (content : List ℕ) (found : List Item) → IsContent id place content found → set_items id place content ≡ read_items found
content_only id place content found is = content_by id place content found (eqb id 2) (eqb id 3) (ltb id 256) refl refl refl is

abbrev next_items : List Item → List ℕ → Front Item Fault
next_items found rest = Next found rest

set_only : (total place : ℕ) (octets rest : List ℕ) (found : List Item) → total ≡ place + length (octets ++ rest) → IsSet place octets found → set_front total (octets ++ rest) ≡ next_items found rest
unfolding set_front
set_only total place octets rest found sum is =
    let a = is.0 in
    let b = is.1 in
    let content = is.2 in
    let id = is.3 in
    let joined : octets ++ rest ≡ a ++ (b ++ (content ++ rest)) = ap (λ (t : List ℕ). t ++ rest) is.4 ∙ append_assoc a (b ++ content) rest ∙ ap (λ (t : List ℕ). a ++ t) (append_assoc b content rest) in
    let four : length (a ++ b) ≡ 4 = omega (arith, length-append a b, is.5.wide, is.6.wide) in
    let size : length octets ≡ 4 + length content = omega (arith, ap length is.4, length-append a (b ++ content), length-append b content, is.5.wide, is.6.wide) in
    let all : length (a ++ (b ++ (content ++ rest))) ≡ length octets + length rest = omega (arith, ap length joined, length-append octets rest) in
    let some : eqb (length (a ++ (b ++ (content ++ rest)))) 0 ≡ false = ne_eqb _ _ (λ e. omega (arith, all, size)) in
    let head : ltb (length (a ++ (b ++ (content ++ rest)))) 4 ≡ false = le-ltb _ _ (omega (arith, all, size)) in
    let least : ltb (length octets) 4 ≡ false = le-ltb _ _ (omega (arith, size)) in
    let most : ltb (length (a ++ (b ++ (content ++ rest)))) (length octets) ≡ false = le-ltb _ _ (omega (arith, all)) in
    let after : drop (length octets) (a ++ (b ++ (content ++ rest))) ≡ rest = ap (drop (length octets)) (sym joined) ∙ drop_at octets rest (length octets) refl in
    let inside : take (length octets - 4) (drop 4 (a ++ (b ++ (content ++ rest)))) ≡ content =
    ap (take (length octets - 4)) (ap (drop 4) (sym (append_assoc a b (content ++ rest))) ∙ drop_at (a ++ b) (content ++ rest) 4 four) ∙ take_at content rest (length octets - 4) (omega (arith, size)) in
    let start : total - length (a ++ (b ++ (content ++ rest))) + 4 ≡ place + 4 = omega (arith, sum, all, length-append octets rest) in
    rw (joined, some, head, next_number 2 2 (length octets) a b (content ++ rest) is.5.wide is.6, least, most, after, inside, start, first_number 2 id a (b ++ (content ++ rest)) is.5, content_only id (place + 4) content found is.7) refl

sets_only : (n total place : ℕ) (octets : List ℕ) (found : List Item) → total ≡ place + length octets → AreSets n place octets found → read_all (set_front total) octets ≡ read_items found
sets_only zero total place octets found sum is =
    read_all-step (set_front total) (set_takes total) octets
    ∙ ap (λ f. read_on f (read_all (set_front total))) (ap (set_front total) is.0 ∙ nothing_left total) ∙ ap read_items (sym is.1)
sets_only (suc n) total place octets found sum is =
    let parts = is.4 in
    let others = sets_only n total (place + length is.0) is.1 is.3 (omega (arith, sum, ap length is.4, length-append is.0 is.1)) is.7 in
    read_all-step (set_front total) (set_takes total) octets
    ∙ ap (λ f. read_on f (read_all (set_front total))) (ap (set_front total) is.4 ∙ set_only total place is.0 is.1 is.2 (sum ∙ ap (λ (t : List ℕ). place + length t) is.4) is.6)
    ∙ ap (with_front is.2) others ∙ ap read_items (sym is.5)

-- ---- messages

header_only : (octets rest : List ℕ) (h : Header) → IsHeader octets (length (octets ++ rest)) h → (length octets ≡ 16) × (read_header (octets ++ rest) ≡ read_head h)
unfolding read_header
header_only octets rest h is =
    let a = is.0 in
    let b = is.1 in
    let c = is.2 in
    let d = is.3 in
    let e = is.4 in
    let wide : length octets ≡ 16 = omega (arith, ap length is.5, length-append a (b ++ (c ++ (d ++ e))), length-append b (c ++ (d ++ e)), length-append c (d ++ e), length-append d e, is.6.wide, is.7.wide, is.8.wide, is.9.wide, is.10.wide) in
    let after_a : octets ++ rest ≡ a ++ ((b ++ (c ++ (d ++ e))) ++ rest) = ap (λ (t : List ℕ). t ++ rest) is.5 ∙ append_assoc a (b ++ (c ++ (d ++ e))) rest in
    let after_b : octets ++ rest ≡ a ++ (b ++ ((c ++ (d ++ e)) ++ rest)) = after_a ∙ ap (λ (t : List ℕ). a ++ t) (append_assoc b (c ++ (d ++ e)) rest) in
    let after_c : octets ++ rest ≡ (a ++ b) ++ (c ++ ((d ++ e) ++ rest)) = after_b ∙ sym (append_assoc a b ((c ++ (d ++ e)) ++ rest)) ∙ ap (λ (t : List ℕ). (a ++ b) ++ t) (append_assoc c (d ++ e) rest) in
    let after_d : octets ++ rest ≡ ((a ++ b) ++ c) ++ (d ++ (e ++ rest)) = after_c ∙ sym (append_assoc (a ++ b) c ((d ++ e) ++ rest)) ∙ ap (λ (t : List ℕ). ((a ++ b) ++ c) ++ t) (append_assoc d e rest) in
    let after_e : octets ++ rest ≡ (((a ++ b) ++ c) ++ d) ++ (e ++ rest) = after_d ∙ sym (append_assoc ((a ++ b) ++ c) d (e ++ rest)) in
    let four : length (a ++ b) ≡ 4 = omega (arith, length-append a b, is.6.wide, is.7.wide) in
    let eight : length ((a ++ b) ++ c) ≡ 8 = omega (arith, length-append (a ++ b) c, four, is.8.wide) in
    let twelve : length (((a ++ b) ++ c) ++ d) ≡ 12 = omega (arith, length-append ((a ++ b) ++ c) d, eight, is.9.wide) in
    let version : number_at 0 2 (octets ++ rest) ≡ 10 = ap (λ (t : List ℕ). number_at 0 2 t) after_a ∙ first_number 2 10 a ((b ++ (c ++ (d ++ e))) ++ rest) is.6 in
    let len : number_at 2 2 (octets ++ rest) ≡ length (octets ++ rest) = ap (λ (t : List ℕ). number_at 2 2 t) after_b ∙ next_number 2 2 (length (octets ++ rest)) a b ((c ++ (d ++ e)) ++ rest) is.6.wide is.7 in
    let time : number_at 4 4 (octets ++ rest) ≡ h.export_time = ap (λ (t : List ℕ). number_at 4 4 t) after_c ∙ next_number 4 4 h.export_time (a ++ b) c ((d ++ e) ++ rest) four is.8 in
    let sequence : number_at 8 4 (octets ++ rest) ≡ h.sequence = ap (λ (t : List ℕ). number_at 8 4 t) after_d ∙ next_number 8 4 h.sequence ((a ++ b) ++ c) d (e ++ rest) eight is.9 in
    let domain : number_at 12 4 (octets ++ rest) ≡ h.domain = ap (λ (t : List ℕ). number_at 12 4 t) after_e ∙ next_number 12 4 h.domain (((a ++ b) ++ c) ++ d) e rest twelve is.10 in
    let long : ltb (length (octets ++ rest)) 16 ≡ false = le-ltb _ _ (omega (arith, length-append octets rest, wide)) in
    let right : eqb (number_at 2 2 (octets ++ rest)) (length (octets ++ rest)) ≡ true = eq-eqb _ _ len in
    (wide, rw (long, version, right, time, sequence, domain) refl)

-- what is a message of the grammar is read as that
pub message_only : (octets : List ℕ) (h : Header) (found : List Item) → IsMessage octets h found → items_of octets ≡ read_items found
unfolding items_of
message_only octets h found is =
    let whole : octets ≡ is.0 ++ is.1 = is.3 in
    let head = header_only is.0 is.1 h (subst (λ (n : ℕ). IsHeader is.0 n h) (ap length whole) is.4) in
    let read : read_header octets ≡ read_head h = ap read_header whole ∙ head.1 in
    let rest : drop 16 octets ≡ is.1 = ap (drop 16) whole ∙ drop_at is.0 is.1 16 head.0 in
    rw (read, rest) (sets_only is.2 (length octets) 16 is.1 found (omega (arith, ap length whole, length-append is.0 is.1, head.0)) is.5)

-- what is read is the header
pub message_header : (octets : List ℕ) (h : Header) (found : List Item) → IsMessage octets h found → read_header octets ≡ read_head h
message_header octets h found is =
    let head = header_only is.0 is.1 h (subst (λ (n : ℕ). IsHeader is.0 n h) (ap length is.3) is.4) in
    ap read_header is.3 ∙ head.1
