-- What the items of a written message hold, and which templates are in force after them.
use Rattle.std.proofs.Common.{◌≡◌, ℕ, ◌+◌, cond, eqb, List, [], ◌∷◌, ◌++◌, length, take, drop, map, reverse, Option, Some, refl, sym, ap, ◌∙◌, append_assoc, arith, length-append}
use Rattle.std.specs.List.{flat_map}
use Rattle.std.proofs.lemmas.List.{take_at, drop_at, reverse-append}
use Rattle.ipfix_template.specs.declared.template.Template.{Template}
use Rattle.ipfix_template.specs.DataRecord.{DataRecord}
use Rattle.ipfix_message.specs.declared.item.Item.{Item}
use Rattle.ipfix_message.specs.declared.item.Item.TheVariants as items
use Rattle.ipfix_session.specs.InForce.{template_in_force}
use Rattle.ipfix_session.specs.Contents.{nothing, only_records, record_of, rows_of, set_contents, item_contents, contents_after}
use Rattle.subscriber_stream.specs.Message.{Set, Announces, Brings, set_head, set_id, set_content, set_text}
use Rattle.subscriber_stream.proofs.Bodies.{spelled, texts}
use Rattle.ipfix_session.proofs.WalkSteps.{read_contents}
use Rattle.stream_meaning.proofs.DataSets.{values_of, AreOf, content_read}
use Rattle.stream_meaning.proofs.Tables.{Table, defining, AreBrought, AreWritten, after_sets, records_among}
use Rattle.stream_meaning.proofs.Written.{item_of, items_at}

abbrev IsTableOf : Table → List Item → Type 0
IsTableOf table older = (q : ℕ) → template_in_force q older ≡ table q

-- ---- one Data Set

with_template : (t : Template) (rs : List DataRecord) → AreOf t rs → map (record_of t) (map values_of rs) ≡ rs
with_template t [] are = refl
with_template t (r ∷ rs) are =
    ap (λ (u : Template). record_of u r.values ∷ map (record_of t) (map values_of rs)) (sym are.0.template) ∙ ap (λ (others : List DataRecord). r ∷ others) (with_template t rs are.1)

set_read : (table : Table) (id : ℕ) (rs : List DataRecord) (found : Option Template) → found ≡ table id → (are : AreBrought table id rs) → set_contents found (flat_map spelled rs) ≡ read_contents (only_records rs)
set_read table id rs found same are =
    ap (λ (o : Option Template). set_contents o (flat_map spelled rs)) (same ∙ are.known)
    ∙ ap (rows_of are.template) (content_read are.template rs are.accepted are.are) ∙ ap (λ (others : List DataRecord). read_contents (only_records others)) (with_template are.template rs are.are)

-- the content of a set, by its place in the message
content_at : (message before rest : List ℕ) (s : Set) → message ≡ before ++ (set_text s ++ rest) → take (length (set_content s)) (drop (length before + 4) message) ≡ set_content s
unfolding set_head
content_at message before rest s is =
    let head = set_head (set_id s) (length (set_content s)) in
    let content = set_content s in
    let parts : message ≡ (before ++ head) ++ (content ++ rest) = is ∙ ap (λ (t : List ℕ). before ++ t) (append_assoc head content rest) ∙ sym (append_assoc before head (content ++ rest)) in
    let wide : length (before ++ head) ≡ length before + 4 = length-append before head in
    ap (λ (t : List ℕ). take (length content) (drop (length before + 4) t)) parts
    ∙ ap (take (length content)) (drop_at (before ++ head) (content ++ rest) (length before + 4) wide) ∙ take_at content rest (length content) refl

-- ---- all sets

defined : (table : Table) (older : List Item) (id : ℕ) (shape : Template) → IsTableOf table older → IsTableOf (defining id shape table) (items.Define id shape ∷ older)
unfolding template_in_force
defined table older id shape is q = ap (cond (eqb q id) (Some shape)) (is q)

passed : (table : Table) (older : List Item) (id start len : ℕ) → IsTableOf table older → IsTableOf table (items.DataSet id start len ∷ older)
unfolding template_in_force
passed table older id start len is q = is q

nothing_there : (older : List Item) (message : List ℕ) → contents_after older message [] ≡ read_contents nothing
unfolding contents_after
nothing_there older message = refl

one_more : (older : List Item) (message : List ℕ) (item : Item) (others : List Item) (first rest : List DataRecord) → item_contents older message item ≡ read_contents (only_records first) → contents_after (item ∷ older) message others ≡ read_contents (only_records rest) → contents_after older message (item ∷ others) ≡ read_contents (only_records (first ++ rest))
unfolding contents_after
one_more older message item others first rest here there = rw (here, there) refl

pub contents_read : (sets : List Set) (table : Table) (older : List Item) (message before : List ℕ) (place : ℕ) → AreWritten table sets → IsTableOf table older → message ≡ before ++ texts sets → place ≡ length before → contents_after older message (items_at place sets) ≡ read_contents (only_records (records_among sets))
contents_read [] table older message before place all is whole at = nothing_there older message
contents_read (Announces id shape ∷ sets) table older message before place all is whole at =
    let s = Announces id shape in
    let item = item_of place s in
    let next : message ≡ (before ++ set_text s) ++ texts sets = whole ∙ sym (append_assoc before (set_text s) (texts sets)) in
    let there = contents_read sets (defining id shape table) (item ∷ older) message (before ++ set_text s) (place + length (set_text s)) all.1 (defined table older id shape is) next (omega (arith, at, length-append before (set_text s))) in
    one_more older message item (items_at (place + length (set_text s)) sets) [] (records_among sets) refl there
contents_read (Brings id rs ∷ sets) table older message before place all is whole at =
    let s = Brings id rs in
    let item = item_of place s in
    let next : message ≡ (before ++ set_text s) ++ texts sets = whole ∙ sym (append_assoc before (set_text s) (texts sets)) in
    let there = contents_read sets table (item ∷ older) message (before ++ set_text s) (place + length (set_text s)) all.1 (passed table older id (place + 4) (length (flat_map spelled rs)) is) next (omega (arith, at, length-append before (set_text s))) in
    let found = template_in_force id older in
    let content : take (length (flat_map spelled rs)) (drop (place + 4) message) ≡ flat_map spelled rs = ap (λ (n : ℕ). take (length (flat_map spelled rs)) (drop (n + 4) message)) at ∙ content_at message before (texts sets) s whole in
    let here : item_contents older message item ≡ read_contents (only_records rs) = ap (set_contents found) content ∙ set_read table id rs found (is id) all.0 in
    one_more older message item (items_at (place + length (set_text s)) sets) rs (records_among sets) here there

-- ---- the templates after them

reverse-more : (item : Item) (others older : List Item) → reverse (item ∷ others) ++ older ≡ reverse others ++ (item ∷ older)
reverse-more item others older =
    ap (λ (xs : List Item). xs ++ older) (reverse-append (item ∷ []) others) ∙ append_assoc (reverse others) (item ∷ []) older

pub in_force_after : (sets : List Set) (table : Table) (older : List Item) (place : ℕ) → IsTableOf table older → IsTableOf (after_sets table sets) (reverse (items_at place sets) ++ older)
in_force_after [] table older place is q = is q
in_force_after (Announces id shape ∷ sets) table older place is q =
    let s = Announces id shape in
    let item = item_of place s in
    let others = items_at (place + length (set_text s)) sets in
    ap (template_in_force q) (reverse-more item others older) ∙ in_force_after sets (defining id shape table) (item ∷ older) (place + length (set_text s)) (defined table older id shape is) q
in_force_after (Brings id rs ∷ sets) table older place is q =
    let s = Brings id rs in
    let item = item_of place s in
    let others = items_at (place + length (set_text s)) sets in
    ap (template_in_force q) (reverse-more item others older) ∙ in_force_after sets table (item ∷ older) (place + length (set_text s)) (passed table older id (place + 4) (length (flat_map spelled rs)) is) q
