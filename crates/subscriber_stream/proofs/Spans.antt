-- What is written for a run or an announcement, where other parts follow it.
use Rattle.std.proofs.Common.{◌≡◌, ℕ, zero, suc, ◌+◌, ◌-◌, ◌<◌, ◌≤◌, Bool, true, false, cond, List, [], ◌∷◌, ◌++◌, length, take, drop, get_or, Option, Some, None, refl, sym, ap, subst, ◌∙◌, arith, append_assoc, length-append, min, nat_eq}
use Rattle.std.specs.List.{concat}
use Rattle.std.proofs.lemmas.List.{length-map, take_min}
use Rattle.std.proofs.lemmas.Bool.{eqb-true, eqb-false}
use Rattle.ipfix_template.specs.declared.template.Template.{Template}
use Rattle.subscriber_stream.specs.declared.waiting.Waiting.{Waiting}
use Rattle.subscriber_stream.specs.declared.waiting.Waiting.TheVariants.{Announce, Bring}
use Rattle.subscriber_stream.specs.Message.{set_head}
use Rattle.subscriber_stream.specs.Items.{Item, Brought, IsAnnouncement, AreItemsKept, joins, total, run, set_pieces}
use Rattle.subscriber_stream.specs.Waiting.{waiting_items, items_in, IsFilledRun, set_after, span}
use Rattle.subscriber_stream.proofs.RunLaws.{brings, head, cost_is, same_id}
use Rattle.subscriber_stream.proofs.Queues.{items_from}
use Rattle.subscriber_stream.proofs.Pieces.{run-total}
use Rattle.subscriber_stream.specs.Items.{longest_body}

-- none is left of no parts, and one less of one more
none_less : (n : ℕ) (qs : List Item) → take (zero - n) qs ≡ []
none_less n qs =
    let e : zero - n ≡ zero = omega arith in ap (λ (m : ℕ). take m qs) e

one_less : (m n : ℕ) (qs : List Item) → take (suc m - suc n) qs ≡ take (m - n) qs
one_less m n qs =
    let e : suc m - suc n ≡ m - n = omega arith in ap (λ (k : ℕ). take k qs) e

none_taken : (n : ℕ) (qs : List Item) → take n qs ≡ take (n - 0) qs
none_taken n qs =
    let e : n ≡ n - 0 = omega arith in ap (λ (m : ℕ). take m qs) e

-- ---- records of a set that is open, and what follows them

pub run_front : (id n : ℕ) (texts : List (List ℕ)) (qs : List Item) → run id (take n (brings id texts ++ qs)) ≡ length (concat (take n texts)) + run id (take (n - length texts) qs)
run_front id zero texts qs = rw (none_less (length texts) qs) refl
run_front id (suc n) [] qs = omega (arith, ap (run id) (none_taken (suc n) qs))
run_front id (suc n) (text ∷ texts) qs =
    rw (same_id id, one_less n (length texts) qs) (omega (arith, run_front id n texts qs, length-append text (concat (take n texts))))

pieces_front : (shapes : List Template) (id n : ℕ) (texts : List (List ℕ)) (qs : List Item) → set_pieces shapes (Some id) (take n (brings id texts ++ qs)) ≡ concat (take n texts) ++ set_pieces shapes (Some id) (take (n - length texts) qs)
pieces_front shapes id zero texts qs = rw (none_less (length texts) qs) refl
pieces_front shapes id (suc n) [] qs = ap (set_pieces shapes (Some id)) (none_taken (suc n) qs)
pieces_front shapes id (suc n) (text ∷ texts) qs =
    rw (same_id id, one_less n (length texts) qs) (ap (λ (t : List ℕ). text ++ t) (pieces_front shapes id n texts qs) ∙ sym (append_assoc text (concat (take n texts)) (set_pieces shapes (Some id) (take (n - length texts) qs))))

total_front : (id n : ℕ) (texts : List (List ℕ)) (qs : List Item) → total (Some id) (take n (brings id texts ++ qs)) ≡ length (concat (take n texts)) + total (Some id) (take (n - length texts) qs)
total_front id zero texts qs = rw (none_less (length texts) qs) refl
total_front id (suc n) [] qs = omega (arith, ap (total (Some id)) (none_taken (suc n) qs))
total_front id (suc n) (text ∷ texts) qs =
    rw (same_id id, one_less n (length texts) qs) (omega (arith, total_front id n texts qs, length-append text (concat (take n texts))))

-- ---- a run or an announcement, and what follows it

regroup : (h t c p : List ℕ) → (h ++ t) ++ (c ++ p) ≡ (h ++ (t ++ c)) ++ p
regroup h t c p =
    append_assoc h t (c ++ p) ∙ ap (λ (x : List ℕ). h ++ x) (sym (append_assoc t c p)) ∙ sym (append_assoc h (t ++ c) p)

-- it writes its span, and then what follows it is written
pub span_written : (shapes : List Template) (last : Option ℕ) (left : ℕ) (w : Waiting) (queue : List Waiting) → 0 < left → IsFilledRun w
    → set_pieces shapes last (take left (waiting_items w ++ items_in queue)) ≡ span shapes last left w queue ++ set_pieces shapes (set_after w) (take (left - length (waiting_items w)) (items_in queue))
span_written shapes last zero w queue some filled = absurd (omega arith)
span_written shapes last (suc n) (Announce id octets) queue some filled =
    let e : suc n - 1 ≡ n = omega arith in rw e refl
span_written shapes last (suc n) (Bring id []) queue some filled = absurd (omega arith)
span_written shapes last (suc n) (Bring id (text ∷ texts)) queue some filled =
    let qs = items_in queue in
    let content = concat (take n texts) in
    let rest = set_pieces shapes (Some id) (take (n - length texts) qs) in
    let octets : length text + run id (take n (brings id texts ++ qs)) ≡ length (text ++ content) + run id (take (n - length texts) qs) = omega (arith, run_front id n texts qs, length-append text content) in
    let len : length (brings id texts) ≡ length texts = length-map texts (Brought id) in
    rw (len, one_less n (length texts) qs) (
    ap (λ (t : List ℕ). (cond (joins last id) [] (set_head id (length text + run id (take n (brings id texts ++ qs)))) ++ text) ++ t) (pieces_front shapes id n texts qs)
    ∙ ap (λ (m : ℕ). (cond (joins last id) [] (set_head id m) ++ text) ++ (content ++ rest)) octets
    ∙ regroup (cond (joins last id) [] (set_head id (length (text ++ content) + run id (take (n - length texts) qs)))) text content rest
    )

pub total_span : (last : Option ℕ) (id left : ℕ) (texts : List (List ℕ)) (qs : List Item) → 0 < left → 0 < length texts → total last (take left (brings id texts ++ qs)) ≡ head last id + length (concat (take left texts)) + total (Some id) (take (left - length texts) qs)
total_span last id zero texts qs some filled = absurd (omega arith)
total_span last id (suc n) [] qs some filled = absurd (omega arith)
total_span last id (suc n) (text ∷ texts) qs some filled =
    rw (one_less n (length texts) qs) (omega (arith, cost_is last id text, total_front id n texts qs, length-append text (concat (take n texts))))

-- the records that join its set are among what follows
pub span_small : (last : Option ℕ) (id left : ℕ) (texts : List (List ℕ)) (qs : List Item) → 0 < left → 0 < length texts → length (concat (take left texts)) + run id (take (left - length texts) qs) ≤ total last (take left (brings id texts ++ qs))
span_small last id left texts qs some filled =
    omega (arith, total_span last id left texts qs some filled, run-total id (take (left - length texts) qs))

-- the same, where the first so many of its records are in the message
pub span_fits : (last : Option ℕ) (id left count octets others : ℕ) (w : Waiting) (texts : List (List ℕ)) (qs : List Item) → w ≡ Bring id texts → 0 < left → IsFilledRun w → count ≡ min (length texts) left → octets ≡ length (concat (take count texts)) → others ≡ run id (take (left - count) qs) → total last (take left (waiting_items w ++ qs)) ≤ longest_body → octets + others ≤ longest_body
span_fits last id left count octets others w texts qs w_is some filled count_is octets_is others_is fits =
    let len : length (waiting_items w) ≡ length texts = ap (λ (v : Waiting). length (waiting_items v)) w_is ∙ length-map texts (Brought id) in
    let swapped : count ≡ min left (length texts) = omega (arith, count_is) in
    let first : take count texts ≡ take left texts = ap (λ (n : ℕ). take n texts) swapped ∙ take_min left texts in
    let behind : left - count ≡ left - length texts = omega (arith, count_is) in
    let whole : total last (take left (waiting_items w ++ qs)) ≡ total last (take left (brings id texts ++ qs)) = ap (λ (v : Waiting). total last (take left (waiting_items v ++ qs))) w_is in
    omega (arith, span_small last id left texts qs some (omega (arith, filled, len)), octets_is, others_is, ap (λ (ts : List (List ℕ)). length (concat ts)) first, ap (λ (n : ℕ). run id (take n qs)) behind, whole, fits)

-- an announcement that waits is kept
pub announcement_of : (shapes : List Template) (w : Waiting) (id octets : ℕ) → AreItemsKept shapes (waiting_items w) → w ≡ Announce id octets → IsAnnouncement shapes id octets
announcement_of shapes w id octets kept is =
    let K : Waiting → Type 0 = λ v. AreItemsKept shapes (waiting_items v) in (subst K is kept).0

pub total_after : (last : Option ℕ) (left : ℕ) (w : Waiting) (qs : List Item) → 0 < left → IsFilledRun w → total (set_after w) (take (left - length (waiting_items w)) qs) ≤ total last (take left (waiting_items w ++ qs))
total_after last zero w qs some filled = absurd (omega arith)
total_after last (suc n) (Announce id octets) qs some filled =
    let e : suc n - 1 ≡ n = omega arith in rw e (omega arith)
total_after last (suc n) (Bring id texts) qs some filled =
    let len : length (brings id texts) ≡ length texts = length-map texts (Brought id) in
    rw len (omega (arith, total_span last id (suc n) texts qs some (omega (arith, filled, len))))

-- ---- along the queue

kept_behind : (shapes : List Template) (vs ws : List Item) → AreItemsKept shapes (vs ++ ws) → AreItemsKept shapes vs × AreItemsKept shapes ws
kept_behind shapes [] ws kept = (tt, kept)
kept_behind shapes (v ∷ vs) ws kept =
    let others = kept_behind shapes vs ws kept.1 in ((kept.0, others.0), others.1)

-- what was written up to this place, and what is still to be written
pub record IsWriting (shapes : List Template) (queue : List Waiting) (count : ℕ) (start : List ℕ) (place left : ℕ) (last : Option ℕ) (out : List ℕ) : Type 0 where
  pub written : out ++ set_pieces shapes last (take left (items_in (drop place queue))) ≡ start ++ set_pieces shapes None (take count (items_in queue))
  pub fits : total last (take left (items_in (drop place queue))) ≤ longest_body
  pub kept : AreItemsKept shapes (items_in (drop place queue))

-- what the next step asks for
pub record CanWrite (shapes : List Template) (queue : List Waiting) (place left : ℕ) (last : Option ℕ) (w : Waiting) : Type 0 where
  pub kept : AreItemsKept shapes (waiting_items w)
  pub fits : total last (take left (waiting_items w ++ items_in (drop (place + 1) queue))) ≤ longest_body

pub can_write : (shapes : List Template) (queue : List Waiting) (count : ℕ) (start : List ℕ) (place left : ℕ) (last : Option ℕ) (out : List ℕ) (w : Waiting) → IsWriting shapes queue count start place left last out → place < length queue → w ≡ get_or queue place w → CanWrite shapes queue place left last w
can_write shapes queue count start place left last out w is lt at =
    let from = items_from queue place w lt at in
    let K : List Item → Type 0 = λ ws. AreItemsKept shapes ws in
    record {
      kept = (kept_behind shapes (waiting_items w) (items_in (drop (place + 1) queue)) (subst K from is.kept)).0;
      fits = omega (arith, is.fits, ap (λ (ws : List Item). total last (take left ws)) from);
    }

pub IsWriting-next : (shapes : List Template) (queue : List Waiting) (count : ℕ) (start : List ℕ) (place left : ℕ) (last : Option ℕ) (out new : List ℕ) (w : Waiting) → IsWriting shapes queue count start place left last out → place < length queue → w ≡ get_or queue place w → 0 < left → IsFilledRun w → new ≡ out ++ span shapes last left w (drop (place + 1) queue)
    → IsWriting shapes queue count start (place + 1) (left - length (waiting_items w)) (set_after w) new
IsWriting-next shapes queue count start place left last out new w is lt at some filled new_is =
    let rest = drop (place + 1) queue in
    let from = items_from queue place w lt at in
    let K : List Item → Type 0 = λ ws. AreItemsKept shapes ws in
    let others = set_pieces shapes (set_after w) (take (left - length (waiting_items w)) (items_in rest)) in
    record {
      written = ap (λ (t : List ℕ). t ++ others) new_is ∙ append_assoc out (span shapes last left w rest) others ∙ ap (λ (t : List ℕ). out ++ t) (sym (span_written shapes last left w rest some filled)) ∙ ap (λ (ws : List Item). out ++ set_pieces shapes last (take left ws)) (sym from) ∙ is.written;
      fits = omega (arith, total_after last left w (items_in rest) some filled, is.fits, ap (λ (ws : List Item). total last (take left ws)) from);
      kept = (kept_behind shapes (waiting_items w) (items_in rest) (subst K from is.kept)).1;
    }

-- ---- the records of one ID

-- those up to this place are counted
pub record IsCounting (queue : List Waiting) (id start count place left octets : ℕ) : Type 0 where
  pub counted : octets + run id (take left (items_in (drop place queue))) ≡ run id (take count (items_in (drop start queue)))

pub counting_more : (queue : List Waiting) (id start count place left octets more part : ℕ) (w : Waiting) (texts : List (List ℕ)) (other : ℕ) → IsCounting queue id start count place left octets → place < length queue → w ≡ get_or queue place w → w ≡ Bring other texts → id ≡ other → part ≡ min (length texts) left → more ≡ length (concat (take part texts))
    → IsCounting queue id start count (place + 1) (left - part) (octets + more)
counting_more queue id start count place left octets more part w texts other is lt at w_is same part_is more_is =
    let qs = items_in (drop (place + 1) queue) in
    let here : items_in (drop place queue) ≡ brings id texts ++ qs = items_from queue place w lt at ∙ ap (λ (v : Waiting). waiting_items v ++ qs) w_is ∙ ap (λ (n : ℕ). brings n texts ++ qs) (sym same) in
    let swapped : part ≡ min left (length texts) = omega (arith, part_is) in
    let first : take part texts ≡ take left texts = ap (λ (n : ℕ). take n texts) swapped ∙ take_min left texts in
    let others : left - length texts ≡ left - part = omega (arith, part_is) in
    let front : run id (take left (items_in (drop place queue))) ≡ length (concat (take left texts)) + run id (take (left - length texts) qs) = ap (λ (ws : List Item). run id (take left ws)) here ∙ run_front id left texts qs in
    record { counted = omega (arith, is.counted, front, more_is, ap (λ (ts : List (List ℕ)). length (concat ts)) first, ap (λ (n : ℕ). run id (take n qs)) others) }

eqb_apart : (m n : ℕ) → nat_eq m n ≡ false → nat_eq n m ≡ false
eqb_apart m n apart = by_test (nat_eq n m) refl where
  by_test : (b : Bool) → nat_eq n m ≡ b → nat_eq n m ≡ false
  by_test false is = is
  by_test true is = absurd (eqb-false m n apart (sym (eqb-true n m is)))

pub other_set : (id other : ℕ) → (id ≡ other → ⊥) → nat_eq other id ≡ false
other_set id other apart = by_test (nat_eq other id) refl where
  by_test : (b : Bool) → nat_eq other id ≡ b → nat_eq other id ≡ false
  by_test false is = is
  by_test true is = absurd (apart (sym (eqb-true other id is)))

-- another set ends them
ended : (id left : ℕ) (w : Waiting) (qs : List Item) → 0 < left → IsFilledRun w → joins (set_after w) id ≡ false → run id (take left (waiting_items w ++ qs)) ≡ 0
ended id zero w qs some filled apart = absurd (omega arith)
ended id (suc n) (Announce other octets) qs some filled apart = refl
ended id (suc n) (Bring other []) qs some filled apart = absurd (omega arith)
ended id (suc n) (Bring other (text ∷ texts)) qs some filled apart = rw (eqb_apart other id apart) refl

pub counting_over : (queue : List Waiting) (id start count place left octets : ℕ) (w : Waiting) → IsCounting queue id start count place left octets → place < length queue → w ≡ get_or queue place w → 0 < left → IsFilledRun w → joins (set_after w) id ≡ false → octets ≡ run id (take count (items_in (drop start queue)))
counting_over queue id start count place left octets w is lt at some filled apart =
    let none : run id (take left (items_in (drop place queue))) ≡ 0 = ap (λ (ws : List Item). run id (take left ws)) (items_from queue place w lt at) ∙ ended id left w (items_in (drop (place + 1) queue)) some filled apart in
    omega (arith, is.counted, none)
