-- What is so where a mediator is given back.
use Rattle.std.proofs.Common.{◌≡◌, ℕ, ◌+◌, ◌<◌, List, [], ◌∷◌, ◌++◌, length, map, take, drop, filter, sum_by, get_or, refl, sym, ap, ◌∙◌, subst, arith, append_assoc}
use Rattle.std.specs.List.{AllByRecursion}
use Rattle.std.proofs.lemmas.List.{length-append, length-map, length-take, map-append, take-append-drop, take_more}
use Rattle.std.proofs.lemmas.List.Concat.{flat_map-cons}
use Rattle.std.proofs.lemmas.List.Sums.{sum_by-cons}
use Rattle.event_journal.specs.declared.entry.Entry.{Entry}
use Rattle.shared_mediator.specs.declared.kept.KeptEntry.{KeptEntry}
use Rattle.shared_mediator.specs.Receipts.{all_kept, AreReceipts, AreComplete, IsFirstRefused}
use Rattle.shared_mediator.specs.Marking.{Marked, AreMarked}
use Rattle.shared_mediator.proofs.Complete.{length_all_kept, all_of_handles, complete}
use Rattle.shared_mediator.specs.Counted.{CountedMediation, has_receipt, receipts_since}
use Rattle.shared_mediator.specs.Locked.{Exporting}
use Rattle.shared_mediator.specs.Handles.{HasReceipt}
use Rattle.shared_mediator.specs.declared.fault.Fault.{Fault}
use Rattle.shared_mediator.specs.Closing.{KeepsMessages, receipts_of, entries_kept, HasReceipts, IsMismatch, NamesReceipt}
use Rattle.shared_mediator.proofs.HandleLaws.{have_receipts}

-- the receipts of all are those of the exporters and those of the administrators
pub entries_add_up : (exporters : List Exporting) (admins : List (List KeptEntry)) → entries_kept exporters admins ≡ sum_by (λ (h : Exporting). length h.kept) exporters + sum_by (λ (kept : List KeptEntry). length kept) admins
entries_add_up [] admins = let added : entries_kept [] admins ≡ sum_by (λ (kept : List KeptEntry). length kept) admins = length_all_kept admins in omega (arith, added)
entries_add_up (e ∷ es) admins =
    ap length (flat_map-cons (λ (kept : List KeptEntry). kept) e.kept (receipts_of es admins)) ∙ length-append e.kept (all_kept (receipts_of es admins)) ∙ ap (λ n. length e.kept + n) (entries_add_up es admins)
    ∙ sums where
      sums : length e.kept + (sum_by (λ (h : Exporting). length h.kept) es + sum_by (λ (kept : List KeptEntry). length kept) admins) ≡ sum_by (λ (h : Exporting). length h.kept) (e ∷ es) + sum_by (λ (kept : List KeptEntry). length kept) admins
      sums = omega (arith, sum_by-cons (λ (h : Exporting). length h.kept) e es)

-- the marks of all, from those of the exporters and those of the administrators
pub checked : (h j : List Entry) (from : ℕ) (first second third : Marked) (exporters : List Exporting) (admins : List (List KeptEntry)) → j ≡ h → first.from ≡ from → second.from ≡ first.from → third.from ≡ second.from → AreMarked first j []
    → ((handles : List (List KeptEntry)) → AreMarked first j handles → AreMarked second j (handles ++ map (λ (h : Exporting). h.kept) exporters)) → ((handles : List (List KeptEntry)) → AreMarked second j handles → AreMarked third j (handles ++ admins))
    → (marks : Marked) × (marks.from ≡ from) × AreMarked marks h (receipts_of exporters admins)
checked h j from first second third exporters admins journal from_first from_second from_third none more most =
    (third, from_third ∙ from_second ∙ from_first, subst (λ (x : List Entry). AreMarked third x (receipts_of exporters admins)) journal (most (map (λ (h : Exporting). h.kept) exporters) (more [] none)))

all_have_receipts : (exporters : List Exporting) (admins : List (List KeptEntry)) → AllByRecursion KeepsMessages exporters → AllByRecursion (AllByRecursion HasReceipt) admins → AllByRecursion (AllByRecursion HasReceipt) (receipts_of exporters admins)
all_have_receipts [] admins messages entries = entries
all_have_receipts (e ∷ es) admins messages entries = (have_receipts e.session 0 e.kept messages.0, all_have_receipts es admins messages.1 entries)

-- where all shares make up the book, each entry that is to have a receipt has one
pub closes : (before : List Entry) (c : CountedMediation) (exporters : List Exporting) (admins : List (List KeptEntry)) → c.from ≡ length before → take (length before) c.core.history ≡ before
    → (marks : Marked) × (marks.from ≡ c.from) × AreMarked marks c.core.history (receipts_of exporters admins) → AllByRecursion KeepsMessages exporters → AllByRecursion (AllByRecursion HasReceipt) admins
    → entries_kept exporters admins ≡ receipts_since c → HasReceipts before c.core.history (receipts_of exporters admins)
closes before c exporters admins from begins marked messages entries book = record {
  begins = begins;
  receipts = subst (λ n. AreReceipts n c.core.history (receipts_of exporters admins)) at marked.2.receipts;
  complete = subst (λ n. AreComplete has_receipt n c.core.history (receipts_of exporters admins)) at (complete has_receipt marked.0 c.core.history (receipts_of exporters admins) marked.2 (all_of_handles HasReceipt (receipts_of exporters admins) (all_have_receipts exporters admins messages entries)) as_many);
} where
  at : marked.0.from ≡ length before
  at = marked.1 ∙ from

  as_many : length (filter has_receipt (drop marked.0.from c.core.history)) ≡ entries_kept exporters admins
  as_many = ap (λ n. length (filter has_receipt (drop n c.core.history))) marked.1 ∙ sym book

-- the same of lists that were handed on
pub closes_for : (before h : List Entry) (c : CountedMediation) (exporters lent : List Exporting) (admins lent_admins : List (List KeptEntry)) → h ≡ c.core.history → lent ≡ exporters → lent_admins ≡ admins → c.from ≡ length before → take (length before) c.core.history ≡ before
    → (marks : Marked) × (marks.from ≡ c.from) × AreMarked marks c.core.history (receipts_of lent lent_admins) → AllByRecursion KeepsMessages lent → AllByRecursion (AllByRecursion HasReceipt) lent_admins
    → entries_kept exporters admins ≡ receipts_since c → HasReceipts before h (receipts_of exporters admins)
closes_for before h c exporters lent admins lent_admins history same same_admins from begins marked messages entries book =
    subst (λ (x : List Entry). HasReceipts before x (receipts_of exporters admins)) (sym history)
    (closes before c exporters admins from begins
    (subst (λ (xs : List Exporting). (marks : Marked) × (marks.from ≡ c.from) × AreMarked marks c.core.history (receipts_of xs admins)) same
    (subst (λ (xs : List (List KeptEntry)). (marks : Marked) × (marks.from ≡ c.from) × AreMarked marks c.core.history (receipts_of lent xs)) same_admins marked))
    (subst (AllByRecursion KeepsMessages) same messages) (subst (AllByRecursion (AllByRecursion HasReceipt)) same_admins entries) book)

-- nothing is left of the administrators
pub none_left : (rest : List (List KeptEntry)) → length rest ≡ 0 → sum_by (λ (kept : List KeptEntry). length kept) rest ≡ 0
none_left [] none = refl
none_left (kept ∷ rest) none = absurd (omega (arith, none))

-- ---- a receipt that isn't the journal's

-- a list, and the next of its elements that a loop comes to
around : {A : Type 0} (xs : List A) (i : ℕ) (x : A) → i < length xs → x ≡ get_or xs i x → xs ≡ take i xs ++ x ∷ drop (i + 1) xs
around {A} xs i x low is = sym (take-append-drop (i + 1) xs) ∙ ap (λ (t : List A). t ++ drop (i + 1) xs) (take_more xs i x low ∙ ap (λ (y : A). take i xs ++ y ∷ []) (sym is)) ∙ append_assoc (take i xs) (x ∷ []) (drop (i + 1) xs)

-- the next of some handles has such a receipt, behind those before it and others
pub mismatch : (from at n position : ℕ) (h : List Entry) (others handles : List (List KeptEntry)) (i : ℕ) (kept shown : List KeptEntry) → i < length handles → kept ≡ get_or handles i kept → shown ≡ kept → at ≡ from → n ≡ length others + i
    → IsFirstRefused at h (others ++ take i handles) shown position → IsMismatch from h (others ++ handles) n position
mismatch from at n position h others handles i kept shown low is same from_is counted first = record {
  before = others ++ take i handles;
  kept = kept;
  after = drop (i + 1) handles;
  handles_are = ap (λ (t : List (List KeptEntry)). others ++ t) (around handles i kept low is) ∙ sym (append_assoc others (take i handles) (kept ∷ drop (i + 1) handles));
  number = omega (arith, counted, low, length-append others (take i handles), length-take i handles);
  first_refused = subst (λ m. IsFirstRefused m h (others ++ take i handles) kept position) from_is (subst (λ k. IsFirstRefused at h (others ++ take i handles) k position) same first);
}

-- the next of some exporters
pub exporters_mismatch : (from at n position : ℕ) (h : List Entry) (exporters : List Exporting) (i : ℕ) (x : Exporting) (shown : List KeptEntry) → i < length exporters → x ≡ get_or exporters i x → shown ≡ x.kept → at ≡ from → n ≡ i
    → IsFirstRefused at h (map (λ (e : Exporting). e.kept) (take i exporters)) shown position → IsMismatch from h (map (λ (e : Exporting). e.kept) exporters) n position
exporters_mismatch from at n position h exporters i x shown low is same from_is counted first = record {
  before = map kept_of (take i exporters);
  kept = x.kept;
  after = map kept_of (drop (i + 1) exporters);
  handles_are = ap (map kept_of) (around exporters i x low is) ∙ map-append kept_of (take i exporters) (x ∷ drop (i + 1) exporters);
  number = omega (arith, counted, low, length-map (take i exporters) kept_of, length-take i exporters);
  first_refused = subst (λ m. IsFirstRefused m h (map kept_of (take i exporters)) x.kept position) from_is (subst (λ k. IsFirstRefused at h (map kept_of (take i exporters)) k position) same first);
} where
  kept_of : Exporting → List KeptEntry
  kept_of e = e.kept

-- by the journal that was lent, and by the place that the marks have
pub names_in : (e : Fault) (from at : ℕ) (h j : List Entry) (handles : List (List KeptEntry)) → j ≡ h → at ≡ from → NamesReceipt e at j handles → NamesReceipt e from h handles
names_in e from at h j handles same from_is names = subst (λ (x : List Entry). NamesReceipt e from x handles) same (subst (λ n. NamesReceipt e n j handles) from_is names)
