-- Notes behind notes.
use Rattle.std.proofs.Common.{◌≡◌, ℕ, zero, suc, ◌+◌, ◌-◌, ◌*◌, ◌≤◌, List, [], ◌∷◌, ◌++◌, length, map, take, drop, refl, sym, ap, ◌∙◌, arith, append_assoc, append-nil, length-append}
use Rattle.std.specs.Prelude.{min}
use Rattle.std.proofs.lemmas.List.{take_all, take_min}
use Rattle.disclosure_audit.specs.declared.entry.Note.{Note}
use Rattle.disclosure_audit.specs.declared.entry.KeptBack.{KeptBack}
use Rattle.disclosure_audit.specs.declared.entry.AuditEntry.{AuditEntry}
use Rattle.disclosure_audit.specs.Queue.{stamp}
use Rattle.disclosure_audit.specs.Noting.{KeptNotes, kept_notes, and_more, notes_of_stretch, unstamped}
use Rattle.disclosure_audit.proofs.StretchLaws.{length-stretch}

abbrev pub kept_as : ℕ → List Note → ℕ → KeptNotes
kept_as most notes count = record { notes = notes; count = count; most = most }

kept_same : (most : ℕ) (a b : List Note) (n m : ℕ) → a ≡ b → n ≡ m → kept_as most a n ≡ kept_as most b m
kept_same most a b n m same counted = ap (λ l. kept_as most l n) same ∙ ap (λ c. kept_as most b c) counted

-- the front of two lists
taken_of_both : (xs ys : List Note) (n : ℕ) → take n (xs ++ ys) ≡ take n xs ++ take (n - length xs) ys
taken_of_both [] ys n = ap (λ m. take m ys) same ∙ ap (λ l. l ++ take (n - 0) ys) (sym (take_all n [] none)) where
  same : n ≡ n - 0
  same = omega arith

  none : 0 ≤ n
  none = omega arith
taken_of_both (x ∷ xs) ys zero = ap (λ m. take m ys) none where
  none : 0 ≡ 0 - suc (length xs)
  none = omega arith
taken_of_both (x ∷ xs) ys (suc n) = ap (λ l. x ∷ l) (taken_of_both xs ys n ∙ ap (λ m. take n xs ++ take m ys) same) where
  same : n - length xs ≡ suc n - suc (length xs)
  same = omega arith

-- what a front leaves of its length
left_over : (n : ℕ) (xs : List Note) → n - length (take n xs) ≡ n - length xs
left_over zero xs = omega arith
left_over (suc n) [] = refl
left_over (suc n) (x ∷ xs) = omega (arith, left_over n xs)

pub none_more : (k : KeptNotes) → and_more k [] ≡ k
none_more k =
    let few : 0 ≤ k.most - length k.notes = omega arith in
    let same : k.count + 0 ≡ k.count = omega arith in
    kept_same k.most (k.notes ++ take (k.most - length k.notes) []) k.notes (k.count + 0) k.count
    (ap (λ l. k.notes ++ l) (take_all (k.most - length k.notes) [] few) ∙ append-nil k.notes) same

pub more_more : (k : KeptNotes) (a b : List Note) → and_more (and_more k a) b ≡ and_more k (a ++ b)
more_more k a b =
    let m = k.most - length k.notes in
    let front = k.notes ++ take m a in
    let rest : k.most - length front ≡ m - length a = omega (arith, length-append k.notes (take m a), left_over m a) in
    let all : k.count + length a + length b ≡ k.count + length (a ++ b) = omega (arith, length-append a b) in
    kept_same k.most (front ++ take (k.most - length front) b) (k.notes ++ take m (a ++ b)) (k.count + length a + length b) (k.count + length (a ++ b))
    (append_assoc k.notes (take m a) (take (k.most - length front) b) ∙ ap (λ n. k.notes ++ (take m a ++ take n b)) rest ∙ ap (λ l. k.notes ++ l) (sym (taken_of_both a b m))) all

pub kept_more : (most : ℕ) (a b : List Note) → and_more (kept_notes most a) b ≡ kept_notes most (a ++ b)
kept_more most a b =
    kept_same most (take most a ++ take (most - length (take most a)) b) (take most (a ++ b)) (length a + length b) (length (a ++ b))
    (ap (λ n. take most a ++ take n b) (left_over most a) ∙ sym (taken_of_both a b most)) (sym (length-append a b))

-- from none on
pub kept_from_none : (most : ℕ) (all : List Note) (k l : KeptNotes) → k ≡ kept_notes most [] → l ≡ and_more k all → l ≡ kept_notes most all
kept_from_none most all k l start grown = grown ∙ ap (λ n. and_more n all) start ∙ kept_more most [] all

-- where no more are kept, one more is counted
pub counted_more : (k : KeptNotes) (note : Note) → k.most ≤ length k.notes → and_more k (note ∷ []) ≡ kept_as k.most k.notes (k.count + 1)
counted_more k note full =
    let none : k.most - length k.notes ≡ 0 = omega (arith, full) in
    kept_same k.most (k.notes ++ take (k.most - length k.notes) (note ∷ [])) k.notes (k.count + 1) (k.count + 1) (ap (λ (n : ℕ). k.notes ++ take n (note ∷ [])) none ∙ append-nil k.notes) refl

-- a stretch of which so many notes are kept as there is room for
pub stretch_more : (k : KeptNotes) (first count : ℕ) (each : List KeptBack) (size room kept : ℕ) (notes : List Note) → size ≡ count * length each → room ≡ k.most - length k.notes → kept ≡ min size room
    → notes ≡ k.notes ++ take kept (notes_of_stretch first count each) → kept_as k.most notes (k.count + size) ≡ and_more k (notes_of_stretch first count each)
stretch_more k first count each size room kept notes sized left some are =
    kept_same k.most notes (k.notes ++ take (k.most - length k.notes) all) (k.count + size) (k.count + length all)
    (are ∙ ap (λ (n : ℕ). k.notes ++ take n all) (omega (arith, some, left, sized, long)) ∙ ap (λ (l : List Note). k.notes ++ l) (take_min (k.most - length k.notes) all))
    (omega (arith, sized, long))
  where
    all : List Note
    all = notes_of_stretch first count each

    long : length all ≡ count * length each
    long = length-stretch first count each

pub none_taken : (k : KeptNotes) (kept : ℕ) (more : List Note) → kept ≤ 0 → k.notes ≡ k.notes ++ take kept more
none_taken k kept more none =
    let zeroth : 0 ≡ kept = omega (arith, none) in
    sym (append-nil k.notes) ∙ ap (λ (n : ℕ). k.notes ++ take n more) zeroth

-- ---- notes as entries, and back

noted_again : (position : ℕ) (notes : List Note) → map unstamped (map (stamp position) notes) ≡ notes
noted_again position [] = refl
noted_again position (n ∷ notes) = ap (λ l. n ∷ l) (noted_again position notes)

pub listed_again : (notes listed : List Note) (n : ℕ) (begun entries : List AuditEntry) → listed ≡ notes → n ≡ length listed → begun ≡ [] → entries ≡ begun ++ map (stamp 0) (take n (drop 0 listed)) → map unstamped entries ≡ notes
listed_again notes listed n begun entries are long none copied =
    ap (map unstamped) (copied ∙ ap (λ (l : List AuditEntry). l ++ map (stamp 0) (take n (drop 0 listed))) none ∙ ap (map (stamp 0)) (take_all n listed (omega (arith, long)) ∙ are)) ∙ noted_again 0 notes
