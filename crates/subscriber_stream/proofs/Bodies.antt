-- The sets of a message are what its parts write, one after another.
use Rattle.std.proofs.Common.{◌≡◌, ℕ, ◌+◌, Bool, true, false, cond, List, [], ◌∷◌, ◌++◌, length, Option, Some, None, refl, sym, ap, ◌∙◌, arith, nat_eq, append_assoc, length-append}
use Rattle.std.specs.List.{flat_map}
use Rattle.std.proofs.lemmas.Bool.{eqb-true, eq-eqb}
use Rattle.std.proofs.lemmas.List.{append-nil}
use Rattle.ipfix_template.specs.declared.template.Template.{Template}
use Rattle.ipfix_template.specs.DataRecord.{DataRecord, kept_record}
use Rattle.ipfix_template.specs.Template.{is_options, template_record}
use Rattle.ipfix_template.specs.Values.{record_text}
use Rattle.ipfix_template.proofs.Encoding.{length-template_record}
use Rattle.subscriber_stream.specs.Message.{Set, Announces, Brings, with_record, sets_of, template_set, set_head, set_text, body}
use Rattle.subscriber_stream.specs.Items.{Item, Announced, Brought, shape_at, stream_parts, IsEntry, AreItemsKept, joins, total, run, set_pieces}

-- the octets of a record in a Data Set
abbrev pub spelled : DataRecord → List ℕ
spelled r = record_text r.template.fields r.values

abbrev pub texts : List Set → List ℕ
texts sets = flat_map set_text sets

-- what is left to write of the sets where the header of a Data Set of this ID was written
abbrev text_after : Option ℕ → List Set → List ℕ
text_after None sets = texts sets
text_after (Some id) [] = []
text_after (Some id) (Announces other shape ∷ sets) = texts (Announces other shape ∷ sets)
text_after (Some id) (Brings other rs ∷ sets) = cond (nat_eq id other) (flat_map spelled rs ++ texts sets) (texts (Brings other rs ∷ sets))

-- the octets of the Data Set of this ID in front of the sets
abbrev content_after : ℕ → List Set → ℕ
content_after id [] = 0
content_after id (Announces other shape ∷ sets) = 0
content_after id (Brings other rs ∷ sets) = cond (nat_eq id other) (length (flat_map spelled rs)) 0

-- a record in a Data Set of its own
alone : (id : ℕ) (r : DataRecord) (rest : List ℕ) → set_text (Brings id (r ∷ [])) ++ rest ≡ set_head id (length (spelled r) + 0) ++ (spelled r ++ rest)
alone id r rest =
    let whole : List ℕ → List ℕ = λ t. (set_head id (length t) ++ t) ++ rest in
    let len : length (spelled r) ≡ length (spelled r) + 0 = omega arith in
    ap whole (append-nil (spelled r)) ∙ append_assoc (set_head id (length (spelled r))) (spelled r) rest ∙ ap (λ (n : ℕ). set_head id n ++ (spelled r ++ rest)) len

-- a record in front of the records of its set
joined : (id : ℕ) (r : DataRecord) (rs : List DataRecord) (rest : List ℕ) → set_text (Brings id (r ∷ rs)) ++ rest ≡ set_head id (length (spelled r) + length (flat_map spelled rs)) ++ (spelled r ++ (flat_map spelled rs ++ rest))
joined id r rs rest =
    let content = flat_map spelled rs in
    append_assoc (set_head id (length (spelled r ++ content))) (spelled r ++ content) rest
    ∙ ap (λ (n : ℕ). set_head id n ++ ((spelled r ++ content) ++ rest)) (length-append (spelled r) content)
    ∙ ap (λ (t : List ℕ). set_head id (length (spelled r) + length content) ++ t) (append_assoc (spelled r) content rest)

-- a record in front of sets, of which all is to be written
with_texts : (id : ℕ) (r : DataRecord) (sets : List Set) → texts (with_record id r sets) ≡ set_head id (length (spelled r) + content_after id sets) ++ (spelled r ++ text_after (Some id) sets)
with_texts id r [] = alone id r []
with_texts id r (Announces other shape ∷ sets) = alone id r (texts (Announces other shape ∷ sets))
with_texts id r (Brings other rs ∷ sets) = by_test (nat_eq id other) where
  by_test : (b : Bool) → texts (cond b (Brings id (r ∷ rs) ∷ sets) (Brings id (r ∷ []) ∷ Brings other rs ∷ sets)) ≡ set_head id (length (spelled r) + cond b (length (flat_map spelled rs)) 0) ++ (spelled r ++ cond b (flat_map spelled rs ++ texts sets) (texts (Brings other rs ∷ sets)))
  by_test true = joined id r rs (texts sets)
  by_test false = alone id r (texts (Brings other rs ∷ sets))

same : (id : ℕ) → nat_eq id id ≡ true
same id = eq-eqb id id refl

-- a record that joins the set that is open
with_open : (id : ℕ) (r : DataRecord) (sets : List Set) → text_after (Some id) (with_record id r sets) ≡ spelled r ++ text_after (Some id) sets
with_open id r [] = rw (same id) (append_assoc (spelled r) [] [])
with_open id r (Announces other shape ∷ sets) = rw (same id) (append_assoc (spelled r) [] (texts (Announces other shape ∷ sets)))
with_open id r (Brings other rs ∷ sets) = by_test (nat_eq id other) where
  by_test : (b : Bool) → text_after (Some id) (cond b (Brings id (r ∷ rs) ∷ sets) (Brings id (r ∷ []) ∷ Brings other rs ∷ sets)) ≡ spelled r ++ cond b (flat_map spelled rs ++ texts sets) (texts (Brings other rs ∷ sets))
  by_test true = rw (same id) (append_assoc (spelled r) (flat_map spelled rs) (texts sets))
  by_test false = rw (same id) (append_assoc (spelled r) [] (texts (Brings other rs ∷ sets)))

-- a record that does not
with_other : (last id : ℕ) (r : DataRecord) (sets : List Set) → nat_eq last id ≡ false → text_after (Some last) (with_record id r sets) ≡ texts (with_record id r sets)
with_other last id r [] is = rw is refl
with_other last id r (Announces other shape ∷ sets) is = rw is refl
with_other last id r (Brings other rs ∷ sets) is = by_test (nat_eq id other) where
  by_test : (b : Bool) → text_after (Some last) (cond b (Brings id (r ∷ rs) ∷ sets) (Brings id (r ∷ []) ∷ Brings other rs ∷ sets)) ≡ texts (cond b (Brings id (r ∷ rs) ∷ sets) (Brings id (r ∷ []) ∷ Brings other rs ∷ sets))
  by_test true = rw is refl
  by_test false = rw is refl

content_with : (last id : ℕ) (r : DataRecord) (sets : List Set) → content_after last (with_record id r sets) ≡ cond (nat_eq last id) (length (spelled r) + content_after id sets) 0
content_with last id r [] = ap (λ (n : ℕ). cond (nat_eq last id) n 0) (length-append (spelled r) [])
content_with last id r (Announces other shape ∷ sets) = ap (λ (n : ℕ). cond (nat_eq last id) n 0) (length-append (spelled r) [])
content_with last id r (Brings other rs ∷ sets) = by_test (nat_eq id other) where
  by_test : (b : Bool) → content_after last (cond b (Brings id (r ∷ rs) ∷ sets) (Brings id (r ∷ []) ∷ Brings other rs ∷ sets)) ≡ cond (nat_eq last id) (length (spelled r) + cond b (length (flat_map spelled rs)) 0) 0
  by_test true = ap (λ (n : ℕ). cond (nat_eq last id) n 0) (length-append (spelled r) (flat_map spelled rs))
  by_test false = ap (λ (n : ℕ). cond (nat_eq last id) n 0) (length-append (spelled r) [])

-- ---- along the queue

abbrev entry : List Template → ℕ → List ℕ → DataRecord
entry shapes id octets = kept_record (shape_at shapes id) octets

-- the octets that are kept of a record are those that a Data Set brings
pub spelled-kept : (shapes : List Template) (id : ℕ) (octets : List ℕ) → IsEntry shapes id octets → spelled (entry shapes id octets) ≡ octets
spelled-kept shapes id octets is = sym is.kept.shortest

-- the records that join a set are its content
pub run_content : (shapes : List Template) (id : ℕ) (ws : List Item) → AreItemsKept shapes ws → run id ws ≡ content_after id (sets_of (stream_parts shapes ws))
run_content shapes id [] kept = refl
run_content shapes id (Announced other octets ∷ ws) kept = refl
run_content shapes id (Brought other octets ∷ ws) kept =
    by_test (nat_eq id other) refl (run_content shapes id ws kept.1) (ap length (spelled-kept shapes other octets kept.0)) ∙ sym (content_with id other (entry shapes other octets) (sets_of (stream_parts shapes ws))) where
      by_test : (b : Bool) → nat_eq id other ≡ b → run id ws ≡ content_after id (sets_of (stream_parts shapes ws)) → length (spelled (entry shapes other octets)) ≡ length octets → cond b (length octets + run id ws) 0 ≡ cond b (length (spelled (entry shapes other octets)) + content_after other (sets_of (stream_parts shapes ws))) 0
      by_test true is others here =
          let moved : content_after id (sets_of (stream_parts shapes ws)) ≡ content_after other (sets_of (stream_parts shapes ws)) = ap (λ (n : ℕ). content_after n (sets_of (stream_parts shapes ws))) (eqb-true id other is) in
          omega (arith, others, here, moved)
      by_test false is others here = refl

announced_text : (last : Option ℕ) (id : ℕ) (shape : Template) (sets : List Set) → text_after last (Announces id shape ∷ sets) ≡ texts (Announces id shape ∷ sets)
announced_text None id shape sets = refl
announced_text (Some other) id shape sets = refl

opened_text : (last : Option ℕ) (id : ℕ) (r : DataRecord) (sets : List Set) → joins last id ≡ false → text_after last (with_record id r sets) ≡ texts (with_record id r sets)
opened_text None id r sets is = refl
opened_text (Some other) id r sets is = with_other other id r sets is

joined_text : (last : Option ℕ) (id : ℕ) (r : DataRecord) (sets : List Set) → joins last id ≡ true → text_after last (with_record id r sets) ≡ spelled r ++ text_after (Some id) sets
joined_text None id r sets is = absurd cc
joined_text (Some other) id r sets is =
    ap (λ (n : ℕ). text_after (Some n) (with_record id r sets)) (eqb-true other id is) ∙ with_open id r sets

-- the sets of parts are what the parts write
pub texts_pieces : (shapes : List Template) (last : Option ℕ) (ws : List Item) → AreItemsKept shapes ws → text_after last (sets_of (stream_parts shapes ws)) ≡ set_pieces shapes last ws
texts_pieces shapes None [] kept = refl
texts_pieces shapes (Some id) [] kept = refl
texts_pieces shapes last (Announced id octets ∷ ws) kept =
    let shape = shape_at shapes id in
    let written = template_record id (is_options shape) shape in
    let len : length written ≡ octets = length-template_record id (is_options shape) shape ∙ sym kept.0.counted in
    announced_text last id shape (sets_of (stream_parts shapes ws))
    ∙ ap (λ (t : List ℕ). (set_head (template_set shape) (length written) ++ written) ++ t) (texts_pieces shapes None ws kept.1)
    ∙ ap (λ (n : ℕ). (set_head (template_set shape) n ++ written) ++ set_pieces shapes None ws) len
texts_pieces shapes last (Brought id octets ∷ ws) kept =
    by_test (joins last id) refl (texts_pieces shapes (Some id) ws kept.1) (run_content shapes id ws kept.1) (ap length (spelled-kept shapes id octets kept.0))
    ∙ ap (λ (t : List ℕ). (cond (joins last id) [] (set_head id (length octets + run id ws)) ++ t) ++ set_pieces shapes (Some id) ws) (spelled-kept shapes id octets kept.0) where
      by_test : (b : Bool) → joins last id ≡ b → text_after (Some id) (sets_of (stream_parts shapes ws)) ≡ set_pieces shapes (Some id) ws → run id ws ≡ content_after id (sets_of (stream_parts shapes ws)) → length (spelled (entry shapes id octets)) ≡ length octets
          → text_after last (with_record id (entry shapes id octets) (sets_of (stream_parts shapes ws))) ≡ (cond b [] (set_head id (length octets + run id ws)) ++ spelled (entry shapes id octets)) ++ set_pieces shapes (Some id) ws
      by_test true is rest others here =
          joined_text last id (entry shapes id octets) (sets_of (stream_parts shapes ws)) is ∙ ap (λ (t : List ℕ). spelled (entry shapes id octets) ++ t) rest
      by_test false is rest others here =
          let r = entry shapes id octets in
          let content : length (spelled r) + content_after id (sets_of (stream_parts shapes ws)) ≡ length octets + run id ws = omega (arith, others, here) in
          opened_text last id r (sets_of (stream_parts shapes ws)) is
          ∙ with_texts id r (sets_of (stream_parts shapes ws))
          ∙ ap (λ (n : ℕ). set_head id n ++ (spelled r ++ text_after (Some id) (sets_of (stream_parts shapes ws)))) content
          ∙ ap (λ (t : List ℕ). set_head id (length octets + run id ws) ++ (spelled r ++ t)) rest
          ∙ sym (append_assoc (set_head id (length octets + run id ws)) (spelled r) (set_pieces shapes (Some id) ws))

length-set_head : (id octets : ℕ) → length (set_head id octets) ≡ 4
unfolding set_head
length-set_head id octets = refl

-- and their octets are the costs
pub length-pieces : (shapes : List Template) (last : Option ℕ) (ws : List Item) → AreItemsKept shapes ws → length (set_pieces shapes last ws) ≡ total last ws
length-pieces shapes last [] kept = refl
length-pieces shapes last (Announced id octets ∷ ws) kept =
    let shape = shape_at shapes id in
    let written = template_record id (is_options shape) shape in
    let len : length written ≡ octets = length-template_record id (is_options shape) shape ∙ sym kept.0.counted in
    let head = length-set_head (template_set shape) octets in
    let others = length-pieces shapes None ws kept.1 in
    omega (arith, length-append (set_head (template_set shape) octets ++ written) (set_pieces shapes None ws), length-append (set_head (template_set shape) octets) written, len, head, others)
length-pieces shapes last (Brought id octets ∷ ws) kept =
    by_test (joins last id) (length-pieces shapes (Some id) ws kept.1) where
      by_test : (b : Bool) → length (set_pieces shapes (Some id) ws) ≡ total (Some id) ws → length ((cond b [] (set_head id (length octets + run id ws)) ++ octets) ++ set_pieces shapes (Some id) ws) ≡ cond b (length octets) (4 + length octets) + total (Some id) ws
      by_test true others = omega (arith, length-append octets (set_pieces shapes (Some id) ws), others)
      by_test false others =
          let head = length-set_head id (length octets + run id ws) in
          omega (arith, length-append (set_head id (length octets + run id ws) ++ octets) (set_pieces shapes (Some id) ws), length-append (set_head id (length octets + run id ws)) octets, others, head)

pub body_pieces : (shapes : List Template) (ws : List Item) → AreItemsKept shapes ws → body (stream_parts shapes ws) ≡ set_pieces shapes None ws
unfolding body
body_pieces shapes ws kept = texts_pieces shapes None ws kept
