-- Where there are as many receipts as entries that are to have one, each of those has its own.
use Rattle.std.proofs.Common.{◌≡◌, ℕ, ◌+◌, ◌-◌, ◌<◌, Bool, true, false, List, [], ◌∷◌, ◌++◌, length, map, take, drop, get_or, slice_get, filter, option_map, sum_by, Some, ◌||◌, refl, sym, ap, ◌∙◌, subst, append_assoc, arith}
use Rattle.std.specs.Prelude.{◌==◌}
use Rattle.std.specs.List.{AllByRecursion}
use Rattle.std.proofs.lemmas.Bool.{eqb-true, false≢true}
use Rattle.std.proofs.lemmas.List.{length-append, length-drop, length-map, map-append, take_more}
use Rattle.std.proofs.lemmas.List.Concat.{flat_map-cons}
use Rattle.std.proofs.lemmas.List.Sums.{sum_by-cons}
use Rattle.std.proofs.lemmas.Option.{same_Some, slice_get_within, slice_get-map}
use Rattle.std.proofs.lemmas.Grind.{flat_map-append}
use Rattle.sequences.proofs.ListLaws.{AllByRecursion-append}
use Rattle.event_journal.specs.declared.entry.Entry.{Entry}
use Rattle.mediator_history.specs.Numbers.{is_in}
use Rattle.shared_mediator.specs.declared.kept.KeptEntry.{KeptEntry}
use Rattle.shared_mediator.specs.Receipts.{ReceiptStands, positions, all_kept, AreComplete}
use Rattle.shared_mediator.specs.Marking.{Marked, AreMarked}
use Rattle.shared_mediator.proofs.MarkLists.{get_drop, covered, count_passing}
use Rattle.shared_mediator.proofs.MarkLaws.{count_handles}

pub all_kept_append : (a b : List (List KeptEntry)) → all_kept (a ++ b) ≡ all_kept a ++ all_kept b
all_kept_append a b = flat_map-append (λ (kept : List KeptEntry). kept) a b

-- as many receipts as all handles keep
pub length_all_kept : (handles : List (List KeptEntry)) → length (all_kept handles) ≡ sum_by (λ (kept : List KeptEntry). length kept) handles
length_all_kept [] = refl
length_all_kept (kept ∷ handles) =
    ap length (flat_map-cons (λ (x : List KeptEntry). x) kept handles) ∙ length-append kept (all_kept handles) ∙ ap (λ n. length kept + n) (length_all_kept handles)
    ∙ sym (sum_by-cons (λ (x : List KeptEntry). length x) kept handles)

-- what holds of each receipt of each handle
pub all_of_handles : (P : KeptEntry → Type 0) (handles : List (List KeptEntry)) → AllByRecursion (AllByRecursion P) handles → AllByRecursion P (all_kept handles)
all_of_handles P [] all = tt
all_of_handles P (kept ∷ handles) all = subst (AllByRecursion P) (sym (flat_map-cons (λ (x : List KeptEntry). x) kept handles)) (AllByRecursion-append P kept (all_kept handles) all.0 (all_of_handles P handles all.1))

-- a loop over handles x, behind others, once `mark` was called with what the next one keeps
pub marked_next : {A : Type 0} (kept_of : A → List KeptEntry) (m : Marked) (h : List Entry) (others : List (List KeptEntry)) (xs : List A) (i : ℕ) (x : A) → i < length xs → x ≡ get_or xs i x
    → AreMarked m h ((others ++ map kept_of (take i xs)) ++ kept_of x ∷ []) → AreMarked m h (others ++ map kept_of (take (i + 1) xs))
marked_next {A} kept_of m h others xs i x low is so = subst (AreMarked m h) (append_assoc others (map kept_of (take i xs)) (kept_of x ∷ []) ∙ ap (λ (t : List (List KeptEntry)). others ++ t) (sym front)) so where
  front : map kept_of (take (i + 1) xs) ≡ map kept_of (take i xs) ++ kept_of x ∷ []
  front = ap (map kept_of) (take_more xs i x low ∙ ap (λ (y : A). take i xs ++ y ∷ []) (sym is)) ∙ map-append kept_of (take i xs) (x ∷ [])

-- the entry at a position that a receipt has
shown : (from : ℕ) (h : List Entry) (wanted : Entry → Bool) (p : ℕ) (ks : List KeptEntry) → AllByRecursion (ReceiptStands from h) ks → AllByRecursion (λ k. wanted k.entry ≡ true) ks → is_in p (positions ks) ≡ true
    → (e : Entry) × (slice_get h p ≡ Some e) × (wanted e ≡ true)
shown from h wanted p [] stand all is = absurd (false≢true is)
shown from h wanted p (k ∷ ks) stand all is = by_test (k.position == p) refl (shown from h wanted p ks stand.1 all.1) is where
  by_test : (same : Bool) → (k.position == p) ≡ same → (is_in p (positions ks) ≡ true → (e : Entry) × (slice_get h p ≡ Some e) × (wanted e ≡ true)) → (same || is_in p (positions ks)) ≡ true → (e : Entry) × (slice_get h p ≡ Some e) × (wanted e ≡ true)
  by_test true same others is = (k.entry, ap (slice_get h) (sym (eqb-true k.position p same)) ∙ stand.0.there, all.0)
  by_test false same others is = others is

pub complete : (wanted : Entry → Bool) (m : Marked) (h : List Entry) (handles : List (List KeptEntry)) → AreMarked m h handles
    → AllByRecursion (λ k. wanted k.entry ≡ true) (all_kept handles) → length (filter wanted (drop m.from h)) ≡ length (all_kept handles) → AreComplete wanted m.from h handles
complete wanted m h handles so all as_many p e behind there is =
    ap (λ x. is_in x (positions (all_kept handles))) (sym place)
    ∙ same_Some (is_in (m.from + (p - m.from)) (positions (all_kept handles))) true (sym (so.marked (p - m.from) low) ∙ ap (λ (t : List Bool). slice_get t (p - m.from)) same ∙ answered (p - m.from) e there_too ∙ ap Some is) where
      place : m.from + (p - m.from) ≡ p
      place = omega (arith, behind)

      low : p - m.from < length m.marks
      low = omega (arith, behind, so.as_long, slice_get_within h p e there)

      there_too : slice_get h (m.from + (p - m.from)) ≡ Some e
      there_too = ap (slice_get h) place ∙ there

      answers : List Bool
      answers = map wanted (drop m.from h)

      answered : (i : ℕ) (x : Entry) → slice_get h (m.from + i) ≡ Some x → slice_get (map wanted (drop m.from h)) i ≡ Some (wanted x)
      answered i x at = slice_get-map wanted (drop m.from h) i ∙ ap (option_map wanted) (get_drop m.from i h ∙ at)

      long : length m.marks ≡ length (map wanted (drop m.from h))
      long = let dropped : length (map wanted (drop m.from h)) ≡ length h - m.from = length-map (drop m.from h) wanted ∙ length-drop m.from h in omega (arith, so.as_long)

      below : (i : ℕ) → slice_get m.marks i ≡ Some true → slice_get (map wanted (drop m.from h)) i ≡ Some true
      below i set_here =
          let found = shown m.from h wanted (m.from + i) (all_kept handles) so.receipts.stand all (same_Some (is_in (m.from + i) (positions (all_kept handles))) true (sym (so.marked i (slice_get_within m.marks i true set_here)) ∙ set_here)) in
          answered i found.0 found.1 ∙ ap Some found.2

      same : m.marks ≡ map wanted (drop m.from h)
      same = covered m.marks (map wanted (drop m.from h)) long below (count_handles m h handles so ∙ sym as_many ∙ count_passing wanted (drop m.from h))
