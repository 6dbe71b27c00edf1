-- What marks say of the receipts that set them, as long as receipts come.
use Rattle.std.proofs.Common.{◌≡◌, ◌≢◌, ℕ, zero, suc, ◌+◌, ◌-◌, ◌<◌, ◌≤◌, Bool, true, false, List, [], ◌∷◌, ◌++◌, length, take, drop, get_or, set, slice_get, filter, replicate, Some, ◌||◌, inl, inr, refl, sym, ap, ◌∙◌, subst, append_assoc, append-nil, arith}
use Rattle.std.specs.Prelude.{◌==◌}
use Rattle.std.specs.List.{AllByRecursion}
use Rattle.std.proofs.lemmas.Bool.{eq-eqb, ne_eqb, cases_eq, false≢true, or_right, or_left}
use Rattle.std.proofs.lemmas.List.{map-append, take_more, length-set, length-replicate, take-append-drop, take_all}
use Rattle.std.proofs.lemmas.Option.{same_Some, slice_get_within}
use Rattle.sequences.proofs.ListLaws.{AllByRecursion-append, drop_read}
use Rattle.event_journal.specs.declared.entry.Entry.{Entry}
use Rattle.mediator_history.specs.Numbers.{is_in, AreDistinct}
use Rattle.mediator_history.proofs.HistoryLaws.{flat_map-push}
use Rattle.mediator_history.proofs.ListFilters.{is_in-append, distinct_push}
use Rattle.shared_mediator.specs.declared.kept.KeptEntry.{KeptEntry}
use Rattle.shared_mediator.specs.Receipts.{ReceiptStands, positions, AreInOrder, all_kept, AreReceipts, IsFirstRefused}
use Rattle.shared_mediator.specs.Marking.{Marked, AreMarked, marked_as}
use Rattle.shared_mediator.proofs.MarkLists.{get_set_same, get_set_other, count_unset, none_set}

-- ---- numbers in a list

not_in : (x : ℕ) (ps : List ℕ) → AllByRecursion (λ y. y ≢ x) ps → is_in x ps ≡ false
not_in x [] apart = refl
not_in x (p ∷ ps) apart = ap (λ (b : Bool). b || is_in x ps) (ne_eqb p x apart.0) ∙ not_in x ps apart.1

apart : (x : ℕ) (ps : List ℕ) → is_in x ps ≡ false → AllByRecursion (λ y. y ≢ x) ps
apart x [] none = tt
apart x (p ∷ ps) none = by_test (p == x) refl (apart x ps) none where
  by_test : (same : Bool) → (p == x) ≡ same → (is_in x ps ≡ false → AllByRecursion (λ y. y ≢ x) ps) → (same || is_in x ps) ≡ false → AllByRecursion (λ y. y ≢ x) (p ∷ ps)
  by_test true is others none = absurd (false≢true (sym none))
  by_test false is others none = ((λ same. false≢true (sym is ∙ eq-eqb p x same)), others none)

is_in-one : (x p : ℕ) → is_in x (p ∷ []) ≡ (p == x)
is_in-one x p = by_test (p == x) where
  by_test : (b : Bool) → (b || false) ≡ b
  by_test true = refl
  by_test false = refl

-- ---- as many marks are set as there are positions

pub count_positions : (from : ℕ) (marks : List Bool) (ps : List ℕ) → AreDistinct ps → AllByRecursion (λ p. (from ≤ p) × (p < from + length marks)) ps
    → ((i : ℕ) → i < length marks → slice_get marks i ≡ Some (is_in (from + i) ps)) → length (filter (λ b. b) marks) ≡ length ps
count_positions from marks [] distinct within marked = none_set marks marked
count_positions from marks (p ∷ ps) distinct within marked =
    count_unset marks (p - from) here
    ∙ ap suc (count_positions from (set marks (p - from) false) ps distinct.1 (subst (λ n. AllByRecursion (λ q. (from ≤ q) × (q < from + n)) ps) (sym long) within.1) others) where
      long : length (set marks (p - from) false) ≡ length marks
      long = length-set marks (p - from) false

      place : from + (p - from) ≡ p
      place = omega (arith, within.0.0)

      inside : p - from < length marks
      inside = omega (arith, within.0.0, within.0.1)

      here : slice_get marks (p - from) ≡ Some true
      here = marked (p - from) inside ∙ ap Some (or_left (p == from + (p - from)) (is_in (from + (p - from)) ps) (eq-eqb p (from + (p - from)) (sym place)))

      others : (i : ℕ) → i < length (set marks (p - from) false) → slice_get (set marks (p - from) false) i ≡ Some (is_in (from + i) ps)
      others i below = elim (cases_eq i (p - from)) [
        | inl same ↦ ap (slice_get (set marks (p - from) false)) same ∙ get_set_same marks (p - from) false inside ∙ ap Some (sym (ap (λ k. is_in (from + k) ps) same ∙ ap (λ x. is_in x ps) place ∙ not_in p ps distinct.0))
        | inr other ↦
            let low : i < length marks = omega (arith, long) in
            let apart_from : p ≡ from + i → ⊥ = λ e. other (omega arith) in
            get_set_other marks (p - from) i false other ∙ marked i low ∙ ap (λ (b : Bool). Some (b || is_in (from + i) ps)) (ne_eqb p (from + i) apart_from)
      ]

-- ---- the receipts of all handles in one list, each handle's order left aside

pub record AreMarkedAs (from : ℕ) (marks : List Bool) (h : List Entry) (kept : List KeptEntry) : Type 0 where
  pub as_long : from + length marks ≡ length h
  pub stand : AllByRecursion (ReceiptStands from h) kept
  pub once : AreDistinct (positions kept)
  pub marked : (i : ℕ) → i < length marks → slice_get marks i ≡ Some (is_in (from + i) (positions kept))

-- each position is that of a mark
pub all_within : (from : ℕ) (marks : List Bool) (h : List Entry) (kept : List KeptEntry) → from + length marks ≡ length h → AllByRecursion (ReceiptStands from h) kept → AllByRecursion (λ p. (from ≤ p) × (p < from + length marks)) (positions kept)
all_within from marks h [] as_long stand = tt
all_within from marks h (k ∷ ks) as_long stand = ((stand.0.behind, omega (arith, as_long, slice_get_within h k.position k.entry stand.0.there)), all_within from marks h ks as_long stand.1)

pub count_marked : (from : ℕ) (marks : List Bool) (h : List Entry) (kept : List KeptEntry) → AreMarkedAs from marks h kept → length (filter (λ b. b) marks) ≡ length kept
count_marked from marks h kept so =
    count_positions from marks (positions kept) so.once (all_within from marks h kept so.as_long so.stand) so.marked ∙ length_positions kept where
      length_positions : (ks : List KeptEntry) → length (positions ks) ≡ length ks
      length_positions [] = refl
      length_positions (k ∷ ks) = ap suc (length_positions ks)

-- one receipt more, at a place that is not marked
pub one_more : (from : ℕ) (marks : List Bool) (h : List Entry) (kept : List KeptEntry) (k : KeptEntry)
    → from ≤ k.position → slice_get h k.position ≡ Some k.entry → slice_get marks (k.position - from) ≡ Some false
    → AreMarkedAs from marks h kept → AreMarkedAs from (set marks (k.position - from) true) h (kept ++ k ∷ [])
one_more from marks h kept k behind there free so = record {
  as_long = ap (λ n. from + n) long ∙ so.as_long;
  stand = AllByRecursion-append (ReceiptStands from h) kept (k ∷ []) so.stand (record { behind = behind; there = there }, tt);
  once = subst AreDistinct (sym pushed) (distinct_push (positions kept) k.position so.once (apart k.position (positions kept) new));
  marked = marked;
} where
  pushed : positions (kept ++ k ∷ []) ≡ positions kept ++ k.position ∷ []
  pushed = map-append (λ (x : KeptEntry). x.position) kept (k ∷ [])

  long : length (set marks (k.position - from) true) ≡ length marks
  long = length-set marks (k.position - from) true

  place : from + (k.position - from) ≡ k.position
  place = omega (arith, behind)

  inside : k.position - from < length marks
  inside = slice_get_within marks (k.position - from) false free

  new : is_in k.position (positions kept) ≡ false
  new = ap (λ x. is_in x (positions kept)) (sym place) ∙ same_Some (is_in (from + (k.position - from)) (positions kept)) false (sym (so.marked (k.position - from) inside) ∙ free)

  is_pushed : (x : ℕ) → is_in x (positions (kept ++ k ∷ [])) ≡ (is_in x (positions kept) || (k.position == x))
  is_pushed x = ap (is_in x) pushed ∙ is_in-append x (positions kept) (k.position ∷ []) ∙ ap (λ (b : Bool). is_in x (positions kept) || b) (is_in-one x k.position)

  or_false : (b : Bool) → (b || false) ≡ b
  or_false true = refl
  or_false false = refl

  marked : (i : ℕ) → i < length (set marks (k.position - from) true) → slice_get (set marks (k.position - from) true) i ≡ Some (is_in (from + i) (positions (kept ++ k ∷ [])))
  marked i below = elim (cases_eq i (k.position - from)) [
    | inl same ↦
        let at : k.position ≡ from + i = sym (ap (λ n. from + n) same ∙ place) in
        ap (slice_get (set marks (k.position - from) true)) same ∙ get_set_same marks (k.position - from) true inside
        ∙ ap Some (sym (is_pushed (from + i) ∙ or_right (is_in (from + i) (positions kept)) (k.position == from + i) (eq-eqb k.position (from + i) at)))
    | inr other ↦
        let low : i < length marks = omega (arith, long) in
        let apart_from : k.position ≡ from + i → ⊥ = λ e. other (omega arith) in
        get_set_other marks (k.position - from) i true other ∙ so.marked i low
        ∙ ap Some (sym (is_pushed (from + i) ∙ ap (λ (b : Bool). is_in (from + i) (positions kept) || b) (ne_eqb k.position (from + i) apart_from) ∙ or_false (is_in (from + i) (positions kept))))
  ]

-- ---- from the list to the handles and back

as_list : (m : Marked) (h : List Entry) (handles : List (List KeptEntry)) → AreMarked m h handles → AreMarkedAs m.from m.marks h (all_kept handles)
as_list m h handles so = record { as_long = so.as_long; stand = so.receipts.stand; once = so.receipts.once; marked = so.marked }

pub all_kept_push : (handles : List (List KeptEntry)) (kept : List KeptEntry) → all_kept (handles ++ kept ∷ []) ≡ all_kept handles ++ kept
all_kept_push handles kept = flat_map-push (λ (x : List KeptEntry). x) handles kept

with_handle : (from : ℕ) (marks : List Bool) (h : List Entry) (handles : List (List KeptEntry)) (kept : List KeptEntry)
    → AllByRecursion (AreInOrder from) handles → AreInOrder from kept → AreMarkedAs from marks h (all_kept handles ++ kept) → AreMarked (marked_as from marks) h (handles ++ kept ∷ [])
with_handle from marks h handles kept in_order last so = record {
  as_long = so.as_long;
  receipts = record {
    stand = subst (AllByRecursion (ReceiptStands from h)) (sym (all_kept_push handles kept)) so.stand;
    once = subst (λ (ks : List KeptEntry). AreDistinct (positions ks)) (sym (all_kept_push handles kept)) so.once;
    in_order = AllByRecursion-append (AreInOrder from) handles (kept ∷ []) in_order (last, tt);
  };
  marked = subst (λ (ks : List KeptEntry). (i : ℕ) → i < length marks → slice_get marks i ≡ Some (is_in (from + i) (positions ks))) (sym (all_kept_push handles kept)) so.marked;
}

pub count_handles : (m : Marked) (h : List Entry) (handles : List (List KeptEntry)) → AreMarked m h handles → length (filter (λ b. b) m.marks) ≡ length (all_kept handles)
count_handles m h handles so = count_marked m.from m.marks h (all_kept handles) (as_list m h handles so)

pub none_marked : (from : ℕ) (h : List Entry) → from ≤ length h → AreMarked (marked_as from (replicate (length h - from) false)) h []
none_marked from h within = record {
  as_long = let long : length (replicate (length h - from) false) ≡ length h - from = length-replicate (length h - from) false in omega (arith, within);
  receipts = record { stand = tt; once = tt; in_order = tt };
  marked = λ i below. get_replicate (length h - from) i below;
} where
  get_replicate : (n i : ℕ) → i < length (replicate n false) → slice_get (replicate n false) i ≡ Some false
  get_replicate zero i below = absurd (omega arith)
  get_replicate (suc n) zero below = refl
  get_replicate (suc n) (suc i) below = get_replicate n i (omega arith)

-- ---- one handle's receipts, the first i of which are marked

-- of whatever handles were marked before: the receipts so far are marked behind theirs, and they are in their order up to the floor
pub record IsMarking (old : Marked) (h : List Entry) (kept : List KeptEntry) (i floor : ℕ) (marks : List Bool) : Type 0 where
  pub behind : old.from ≤ floor
  pub so_far : (handles : List (List KeptEntry)) → AreMarked old h handles → AreMarkedAs old.from marks h (all_kept handles ++ take i kept)
  pub in_order : (rest : List KeptEntry) → AreInOrder floor rest → AreInOrder old.from (take i kept ++ rest)
  pub ordered : (rest : List KeptEntry) → AreInOrder old.from (take i kept ++ rest) → AreInOrder floor rest

pub marking_starts : (old : Marked) (h : List Entry) (kept : List KeptEntry) → IsMarking old h kept 0 old.from old.marks
marking_starts old h kept = record {
  behind = omega arith;
  so_far = λ handles so. subst (AreMarkedAs old.from old.marks h) (sym (append-nil (all_kept handles))) (as_list old h handles so);
  in_order = λ rest is. is;
  ordered = λ rest is. is;
}

-- the receipt at the place
front_read : (kept : List KeptEntry) (i : ℕ) (k : KeptEntry) → i < length kept → k ≡ get_or kept i k → take (i + 1) kept ≡ take i kept ++ k ∷ []
front_read kept i k low is = take_more kept i k low ∙ ap (λ (x : KeptEntry). take i kept ++ x ∷ []) (sym is)

split_read : (kept : List KeptEntry) (i : ℕ) (k : KeptEntry) → i < length kept → k ≡ get_or kept i k → kept ≡ take i kept ++ k ∷ drop (i + 1) kept
split_read kept i k low is = sym (take-append-drop i kept) ∙ ap (λ (t : List KeptEntry). take i kept ++ t) (drop_read kept i k low is)

pub is_kept : (kept : List KeptEntry) (i : ℕ) (k : KeptEntry) → i < length kept → k ≡ get_or kept i k → is_in k.position (positions kept) ≡ true
is_kept kept i k low is =
    ap (λ (ks : List KeptEntry). is_in k.position (positions ks)) (split_read kept i k low is)
    ∙ ap (is_in k.position) (map-append (λ (x : KeptEntry). x.position) (take i kept) (k ∷ drop (i + 1) kept))
    ∙ is_in-append k.position (positions (take i kept)) (positions (k ∷ drop (i + 1) kept))
    ∙ or_right (is_in k.position (positions (take i kept))) (is_in k.position (positions (k ∷ drop (i + 1) kept))) (or_left (k.position == k.position) (is_in k.position (positions (drop (i + 1) kept))) (eq-eqb k.position k.position refl))

pub marking_goes_on : (old : Marked) (h : List Entry) (kept : List KeptEntry) (i floor : ℕ) (marks : List Bool) (k : KeptEntry) → i < length kept → k ≡ get_or kept i k
    → floor ≤ k.position → slice_get h k.position ≡ Some k.entry → slice_get marks (k.position - old.from) ≡ Some false
    → IsMarking old h kept i floor marks → IsMarking old h kept (i + 1) (k.position + 1) (set marks (k.position - old.from) true)
marking_goes_on old h kept i floor marks k low is high there free so = record {
  behind = omega (arith, so.behind, high);
  so_far = λ handles before. subst (AreMarkedAs old.from (set marks (k.position - old.from) true) h) (append_assoc (all_kept handles) (take i kept) (k ∷ []) ∙ ap (λ (t : List KeptEntry). all_kept handles ++ t) (sym front)) (one_more old.from marks h (all_kept handles ++ take i kept) k behind there free (so.so_far handles before));
  in_order = λ rest is_next. subst (AreInOrder old.from) (sym (whole rest)) (so.in_order (k ∷ rest) (high, is_next));
  ordered = λ rest all. (so.ordered (k ∷ rest) (subst (AreInOrder old.from) (whole rest) all)).1;
} where
  behind : old.from ≤ k.position
  behind = omega (arith, so.behind, high)

  front : take (i + 1) kept ≡ take i kept ++ k ∷ []
  front = front_read kept i k low is

  whole : (rest : List KeptEntry) → take (i + 1) kept ++ rest ≡ take i kept ++ (k ∷ rest)
  whole rest = ap (λ (t : List KeptEntry). t ++ rest) front ∙ append_assoc (take i kept) (k ∷ []) rest

pub marking_ends : (old : Marked) (h : List Entry) (kept : List KeptEntry) (i floor : ℕ) (marks : List Bool) → length kept ≤ i → IsMarking old h kept i floor marks
    → (handles : List (List KeptEntry)) → AreMarked old h handles → AreMarked (marked_as old.from marks) h (handles ++ kept ∷ [])
marking_ends old h kept i floor marks end so handles before =
    with_handle old.from marks h handles kept before.receipts.in_order
    (subst (AreInOrder old.from) (append-nil (take i kept) ∙ all) (so.in_order [] tt))
    (subst (λ (t : List KeptEntry). AreMarkedAs old.from marks h (all_kept handles ++ t)) all (so.so_far handles before)) where
      all : take i kept ≡ kept
      all = take_all i kept end

-- ---- a receipt that is refused can't stand behind the others

all_at : {A : Type 0} (P : A → Type 0) (xs : List A) (y : A) (zs : List A) → AllByRecursion P (xs ++ y ∷ zs) → P y
all_at P [] y zs all = all.0
all_at P (x ∷ xs) y zs all = all_at P xs y zs all.1

new_at : (xs : List ℕ) (y : ℕ) (zs : List ℕ) → AreDistinct (xs ++ y ∷ zs) → is_in y xs ≡ false
new_at [] y zs distinct = refl
new_at (x ∷ xs) y zs distinct = ap (λ (b : Bool). b || is_in y xs) (ne_eqb x y (λ same. all_at (λ z. z ≢ x) xs y zs distinct.0 (sym same))) ∙ new_at xs y zs distinct.1

-- what has to be so of a receipt where the handle's receipts are ones of the journal beside those before
free_at : (from : ℕ) (marks : List Bool) (h : List Entry) (kept : List KeptEntry) (k : KeptEntry) (rest : List KeptEntry)
    → AreMarkedAs from marks h kept → ReceiptStands from h k → AreDistinct (positions (kept ++ k ∷ rest)) → slice_get marks (k.position - from) ≡ Some false
free_at from marks h kept k rest so stands once = so.marked (k.position - from) inside ∙ ap Some (ap (λ x. is_in x (positions kept)) place ∙ new) where
  place : from + (k.position - from) ≡ k.position
  place = omega (arith, stands.behind)

  inside : k.position - from < length marks
  inside = omega (arith, so.as_long, stands.behind, slice_get_within h k.position k.entry stands.there)

  new : is_in k.position (positions kept) ≡ false
  new = new_at (positions kept) k.position (positions rest) (subst AreDistinct (map-append (λ (x : KeptEntry). x.position) kept (k ∷ rest)) once)

-- the receipts tried begin with those so far and the one at the place
refuses : (old : Marked) (h : List Entry) (kept : List KeptEntry) (i floor : ℕ) (marks : List Bool) (k : KeptEntry) (tried rest : List KeptEntry) → tried ≡ take i kept ++ k ∷ rest
    → IsMarking old h kept i floor marks
    → (floor ≤ k.position → slice_get h k.position ≡ Some k.entry → slice_get marks (k.position - old.from) ≡ Some false → ⊥)
    → (handles : List (List KeptEntry)) → AreMarked old h handles → AreReceipts old.from h (handles ++ tried ∷ []) → ⊥
refuses old h kept i floor marks k tried rest split so refused handles before receipts =
    refused (so.ordered (k ∷ rest) (subst (AreInOrder old.from) split order)).0 stands.there
    (free_at old.from marks h (all_kept handles ++ take i kept) k rest (so.so_far handles before) stands (subst (λ (ks : List KeptEntry). AreDistinct (positions ks)) whole receipts.once)) where
      whole : all_kept (handles ++ tried ∷ []) ≡ (all_kept handles ++ take i kept) ++ k ∷ rest
      whole = all_kept_push handles tried ∙ ap (λ (t : List KeptEntry). all_kept handles ++ t) split ∙ sym (append_assoc (all_kept handles) (take i kept) (k ∷ rest))

      order : AreInOrder old.from tried
      order = all_at (AreInOrder old.from) handles tried [] receipts.in_order

      stands : ReceiptStands old.from h k
      stands = all_at (ReceiptStands old.from h) (all_kept handles ++ take i kept) k rest (subst (AllByRecursion (ReceiptStands old.from h)) whole receipts.stand)

pub marking_refuses : (old : Marked) (h : List Entry) (kept : List KeptEntry) (i floor : ℕ) (marks : List Bool) (k : KeptEntry) → i < length kept → k ≡ get_or kept i k
    → IsMarking old h kept i floor marks
    → (floor ≤ k.position → slice_get h k.position ≡ Some k.entry → slice_get marks (k.position - old.from) ≡ Some false → ⊥)
    → (handles : List (List KeptEntry)) → AreMarked old h handles → AreReceipts old.from h (handles ++ kept ∷ []) → ⊥
marking_refuses old h kept i floor marks k low is so refused = refuses old h kept i floor marks k kept (drop (i + 1) kept) (split_read kept i k low is) so refused

-- those before it could still be ones of the journal
pub refused_first : (old : Marked) (h : List Entry) (kept : List KeptEntry) (i floor : ℕ) (marks : List Bool) (k : KeptEntry) → i < length kept → k ≡ get_or kept i k
    → IsMarking old h kept i floor marks
    → (floor ≤ k.position → slice_get h k.position ≡ Some k.entry → slice_get marks (k.position - old.from) ≡ Some false → ⊥)
    → (handles : List (List KeptEntry)) → AreMarked old h handles → IsFirstRefused old.from h handles kept k.position
refused_first old h kept i floor marks k low is so refused handles before = record {
  before = take i kept;
  refused = k;
  after = drop (i + 1) kept;
  kept_is = split_read kept i k low is;
  at = refl;
  fit = (with_handle old.from marks h handles (take i kept) before.receipts.in_order (subst (AreInOrder old.from) (append-nil (take i kept)) (so.in_order [] tt)) (so.so_far handles before)).receipts;
  unfit = refuses old h kept i floor marks k (take i kept ++ k ∷ []) [] refl so refused handles before;
}
