-- The notes of stretches, and parts of them.
use Rattle.std.proofs.Common.{◌≡◌, ℕ, zero, suc, ◌+◌, ◌-◌, ◌*◌, ◌/◌, ◌%◌, ◌≤◌, ◌<◌, List, [], ◌∷◌, ◌++◌, length, map, take, drop, get_or, refl, sym, ap, ◌∙◌, subst, ◌^◌, ◌⊎◌, inl, inr, arith, append_assoc, append-nil, length-append}
use Rattle.std.specs.Prelude.{min}
use Rattle.std.specs.List.{AllByRecursion, AllZip, AppendsClones}
use Rattle.std.proofs.Math.Seq.{take-append-add, drop-append_seam, drop-append-add}
use Rattle.std.proofs.lemmas.Grind.{flat_map-append}
use Rattle.std.proofs.lemmas.List.{take_all, length-take, length-drop, length-map, drop-map, take-map, take-append-le, drop-append-le, map-append, drop_more}
use Rattle.std.proofs.lemmas.Nat.{mul-le, div-add-mod', mod_below}
use Rattle.std.proofs.lemmas.Bool.{cases_lt}
use Rattle.disclosure_audit.specs.declared.entry.AuditEntry.{AuditEntry}
use Rattle.disclosure_audit.specs.declared.entry.KeptBack.{KeptBack}
use Rattle.disclosure_audit.specs.declared.entry.Note.{Note}
use Rattle.disclosure_audit.specs.declared.stretch.Stretch.{Stretch}
use Rattle.disclosure_audit.specs.Noting.{note_at, notes_of_stretch}
use Rattle.disclosure_audit.specs.Queue.{stamp}
use Rattle.disclosure_audit.specs.Stretching.{each_of, notes_in, stretched_notes, IsWithinEach, AreStretched}
use Rattle.disclosure_audit.proofs.PartLaws.{part_of_two}

pub length-stretch : (first n : ℕ) (each : List KeptBack) → length (notes_of_stretch first n each) ≡ n * length each
length-stretch first zero each = omega arith
length-stretch first (suc n) each =
    omega (arith, length-append (map (note_at first) each) (notes_of_stretch (suc first) n each), length-map each (note_at first), length-stretch (suc first) n each)

-- from a place in a record on there is what is left of this, and the records behind it
pub from_record : (first r n e : ℕ) (each : List KeptBack) → r < n → e ≤ length each
    → drop (r * length each + e) (notes_of_stretch first n each) ≡ map (note_at (first + r)) (drop e each) ++ drop ((r + 1) * length each + 0) (notes_of_stretch first n each)
from_record first r zero e each there inside = absurd (omega (arith, there))
from_record first zero (suc n) e each there inside =
    ap (λ k. drop k (front ++ rest)) none ∙ drop-append-le e front rest few ∙ ap (λ l. l ++ rest) (drop-map (note_at first) e each)
    ∙ ap (λ k. map (note_at k) (drop e each) ++ rest) same
    ∙ ap (λ l. map (note_at (first + 0)) (drop e each) ++ l) (sym (ap (λ k. drop k (front ++ rest)) one ∙ drop-append_seam front rest))
  where
    front : List Note
    front = map (note_at first) each

    rest : List Note
    rest = notes_of_stretch (suc first) n each

    none : 0 * length each + e ≡ e
    none = omega arith

    few : e ≤ length front
    few = omega (arith, length-map each (note_at first), inside)

    same : first ≡ first + 0
    same = omega arith

    one : (0 + 1) * length each + 0 ≡ length front
    one = omega (arith, length-map each (note_at first))
from_record first (suc r) (suc n) e each there inside =
    ap (λ k. drop k (front ++ rest)) here ∙ drop-append-add front rest (r * length each + e) ∙ from_record (suc first) r n e each (omega (arith, there)) inside
    ∙ ap (λ k. map (note_at k) (drop e each) ++ drop ((r + 1) * length each + 0) rest) same
    ∙ ap (λ l. map (note_at (first + suc r)) (drop e each) ++ l) (sym (ap (λ k. drop k (front ++ rest)) next ∙ drop-append-add front rest ((r + 1) * length each + 0)))
  where
    front : List Note
    front = map (note_at first) each

    rest : List Note
    rest = notes_of_stretch (suc first) n each

    here : suc r * length each + e ≡ length front + (r * length each + e)
    here = omega (arith, length-map each (note_at first))

    next : (suc r + 1) * length each + 0 ≡ length front + ((r + 1) * length each + 0)
    next = omega (arith, length-map each (note_at first))

    same : suc first + r ≡ first + suc r
    same = omega arith

-- the front of a stretch: whole records, and the front of one
pub front_records : (first q r n : ℕ) (each : List KeptBack) → q * length each + r ≤ n * length each → r < length each
    → take (q * length each + r) (notes_of_stretch first n each) ≡ notes_of_stretch first q each ++ notes_of_stretch (first + q) 1 (take r each)
front_records first zero r zero each there few = ap (λ k. take k (notes_of_stretch first 0 each)) none ∙ ap (λ k. notes_of_stretch (first + 0) 1 (take k each)) (sym nothing) where
  none : 0 * length each + r ≡ 0
  none = omega (arith, there)

  nothing : r ≡ 0
  nothing = omega (arith, there)
front_records first zero r (suc n) each there few =
    ap (λ k. take k (front ++ rest)) none ∙ take-append-le r front rest inside ∙ take-map (note_at first) r each
    ∙ sym (append-nil (map (note_at first) (take r each))) ∙ ap (λ k. map (note_at k) (take r each) ++ []) same
  where
    front : List Note
    front = map (note_at first) each

    rest : List Note
    rest = notes_of_stretch (suc first) n each

    none : 0 * length each + r ≡ r
    none = omega arith

    inside : r ≤ length front
    inside = omega (arith, length-map each (note_at first), few)

    same : first ≡ first + 0
    same = omega arith
front_records first (suc q) r zero each there few = absurd (omega (arith, there, few))
front_records first (suc q) r (suc n) each there few =
    ap (λ k. take k (front ++ rest)) here ∙ take-append-add front rest (q * length each + r)
    ∙ ap (λ l. front ++ l) (front_records (suc first) q r n each (omega (arith, there)) few)
    ∙ ap (λ k. front ++ (notes_of_stretch (suc first) q each ++ notes_of_stretch k 1 (take r each))) same
    ∙ sym (append_assoc front (notes_of_stretch (suc first) q each) (notes_of_stretch (first + suc q) 1 (take r each)))
  where
    front : List Note
    front = map (note_at first) each

    rest : List Note
    rest = notes_of_stretch (suc first) n each

    here : suc q * length each + r ≡ length front + (q * length each + r)
    here = omega (arith, length-map each (note_at first))

    same : suc first + q ≡ first + suc q
    same = omega arith

-- ---- a list of what is kept back that grows

each_more : (all more : List KeptBack) (s : Stretch) → IsWithinEach all s → each_of (all ++ more) s ≡ each_of all s
each_more all more s so =
    ap (take s.len) (drop-append-le s.from all more (omega (arith, so.there)))
    ∙ take-append-le s.len (drop s.from all) more (omega (arith, so.there, length-drop s.from all))

pub within_more : (all more : List KeptBack) (ss : List Stretch) → AllByRecursion (IsWithinEach all) ss → AllByRecursion (IsWithinEach (all ++ more)) ss
within_more all more [] so = tt
within_more all more (s ∷ ss) so = (record { there = omega (arith, so.0.there, length-append all more); places = so.0.places }, within_more all more ss so.1)

pub notes_more : (all more : List KeptBack) (ss : List Stretch) → AllByRecursion (IsWithinEach all) ss → stretched_notes (all ++ more) ss ≡ stretched_notes all ss
notes_more all more [] so = refl
notes_more all more (s ∷ ss) so =
    ap (λ e. notes_of_stretch s.first s.count e ++ stretched_notes (all ++ more) ss) (each_more all more s so.0)
    ∙ ap (λ l. notes_in all s ++ l) (notes_more all more ss so.1)

pub within_both : (all : List KeptBack) (ss ts : List Stretch) → AllByRecursion (IsWithinEach all) ss → AllByRecursion (IsWithinEach all) ts → AllByRecursion (IsWithinEach all) (ss ++ ts)
within_both all [] ts so these = these
within_both all (s ∷ ss) ts so these = (so.0, within_both all ss ts so.1 these)

-- ---- a part of one stretch

pub each_long : (all : List KeptBack) (s : Stretch) → IsWithinEach all s → length (each_of all s) ≡ s.len
each_long all s so = omega (arith, length-take s.len (drop s.from all), length-drop s.from all, so.there)

pub some_each : (all : List KeptBack) (s : Stretch) (skip most : ℕ) → IsWithinEach all s → skip + most ≤ length (notes_in all s) → 0 < most → 0 < s.len
some_each all s skip most so there some =
    by s.len (omega (arith, there, length-stretch s.first s.count (each_of all s), ap (λ n. s.count * n) (each_long all s so)))
  where
    by : (n : ℕ) → skip + most ≤ s.count * n → 0 < n
    by zero within = absurd (omega (arith, within, some))
    by (suc n) within = omega arith

-- what was copied of a stretch, and what is still to be copied, from a place in a record on
pub record IsCopying (first count skip most position capacity : ℕ) (each : List KeptBack) (before out : List AuditEntry) (at place left : ℕ) : Type 0 where
  pub copied : out ++ map (stamp position) (take left (drop (at * length each + place) (notes_of_stretch first count each))) ≡ before ++ map (stamp position) (take most (drop skip (notes_of_stretch first count each)))
  pub there : at * length each + place + left ≤ count * length each
  pub inside : place < length each
  pub room : length out + left ≤ capacity

lt_from_times : (a b m : ℕ) → a * m < b * m → a < b
lt_from_times zero zero m less = absurd (omega (arith, less))
lt_from_times zero (suc b) m less = omega arith
lt_from_times (suc a) zero m less = absurd (omega (arith, less))
lt_from_times (suc a) (suc b) m less = omega (arith, lt_from_times a b m (omega (arith, less)))

-- there is a record at it
pub record_there : (first count skip most position capacity : ℕ) (each : List KeptBack) (before out : List AuditEntry) (at place left : ℕ) → IsCopying first count skip most position capacity each before out at place left → 0 < left → at < count
record_there first count skip most position capacity each before out at place left was some =
    lt_from_times at count (length each) (omega (arith, was.there, some))

pub record_copied : (first count skip most position capacity : ℕ) (each : List KeptBack) (before out more : List AuditEntry) (at place left n : ℕ) → IsCopying first count skip most position capacity each before out at place left
    → 0 < left → n ≡ min left (length each - place) → more ≡ out ++ map (stamp position) (map (note_at (first + at)) (take n (drop place each)))
    → IsCopying first count skip most position capacity each before more (at + 1) 0 (left - n)
record_copied first count skip most position capacity each before out more at place left n was some takes pushed = record {
  copied =
      ap (λ l. l ++ map (stamp position) (take (left - n) rest)) pushed ∙ append_assoc out (map (stamp position) (map (note_at (first + at)) (take n (drop place each)))) (map (stamp position) (take (left - n) rest))
      ∙ ap (λ l. out ++ l) (sym (map-append (stamp position) (map (note_at (first + at)) (take n (drop place each))) (take (left - n) rest)) ∙ ap (map (stamp position)) (sym whole))
      ∙ was.copied;
  there = omega (arith, was.there, was.inside, takes, next, enough);
  inside = omega (arith, was.inside);
  room = omega (arith, ap (λ (l : List AuditEntry). length l) pushed, length-append out (map (stamp position) (map (note_at (first + at)) (take n (drop place each)))), many, was.room, takes);
} where
  all : List Note
  all = notes_of_stretch first count each

  rest : List Note
  rest = drop ((at + 1) * length each + 0) all

  here : List Note
  here = map (note_at (first + at)) (drop place each)

  long : length here ≡ length each - place
  long = length-map (drop place each) (note_at (first + at)) ∙ length-drop place each

  none : drop 0 here ≡ here
  none = refl

  whole : take left (drop (at * length each + place) all) ≡ map (note_at (first + at)) (take n (drop place each)) ++ take (left - n) rest
  whole =
      ap (take left) (from_record first at count place each (record_there first count skip most position capacity each before out at place left was some) (omega (arith, was.inside)))
      ∙ part_of_two left 0 0 n here rest (omega arith) (omega (arith, takes, long))
      ∙ ap (λ l. l ++ take (left - n) rest) (take-map (note_at (first + at)) n (drop place each))

  many : length (map (stamp position) (map (note_at (first + at)) (take n (drop place each)))) ≡ n
  many = omega (arith, length-map (map (note_at (first + at)) (take n (drop place each))) (stamp position), length-map (take n (drop place each)) (note_at (first + at)), length-take n (drop place each), length-drop place each, takes)

  next : (at + 1) * length each ≤ count * length each
  next = mul-le (at + 1) (length each) count (length each) (omega (arith, record_there first count skip most position capacity each before out at place left was some)) (omega arith)

  enough : (at + 1) * length each ≡ at * length each + length each
  enough = omega arith

pub copying_begins : (all : List KeptBack) (s : Stretch) (skip most position capacity : ℕ) (before : List AuditEntry) → IsWithinEach all s → skip + most ≤ length (notes_in all s) → 0 < most → length before + most ≤ capacity
    → IsCopying s.first s.count skip most position capacity (each_of all s) before before (skip / s.len) (skip % s.len) most
copying_begins all s skip most position capacity before so there some room = record {
  copied = ap (λ k. before ++ map (stamp position) (take most (drop k (notes_in all s)))) whole;
  there = omega (arith, whole, there, length-stretch s.first s.count (each_of all s));
  inside = omega (arith, each_long all s so, mod_below skip s.len (some_each all s skip most so there some));
  room = room;
} where
  whole : skip / s.len * length (each_of all s) + skip % s.len ≡ skip
  whole = ap (λ n. skip / s.len * n + skip % s.len) (each_long all s so) ∙ div-add-mod' skip s.len

-- ---- a part of all stretches

pub stretch_copied : (all : List KeptBack) (ss : List Stretch) (i : ℕ) (d : Stretch) (position left skip passed taken : ℕ) (out more whole : List AuditEntry) → i < length ss
    → out ++ map (stamp position) (take left (drop skip (stretched_notes all (drop i ss)))) ≡ whole
    → passed ≡ min skip (length (notes_in all (get_or ss i d))) → taken ≡ min left (length (notes_in all (get_or ss i d)) - passed)
    → more ≡ out ++ map (stamp position) (take taken (drop passed (notes_in all (get_or ss i d))))
    → more ++ map (stamp position) (take (left - taken) (drop (skip - passed) (stretched_notes all (drop (i + 1) ss)))) ≡ whole
stretch_copied all ss i d position left skip passed taken out more whole there was passes takes pushed =
    ap (λ l. l ++ map (stamp position) rest) pushed ∙ append_assoc out (map (stamp position) front) (map (stamp position) rest)
    ∙ ap (λ l. out ++ l) (sym (map-append (stamp position) front rest) ∙ ap (map (stamp position)) (sym parts))
    ∙ was
  where
    front : List Note
    front = take taken (drop passed (notes_in all (get_or ss i d)))

    rest : List Note
    rest = take (left - taken) (drop (skip - passed) (stretched_notes all (drop (i + 1) ss)))

    parts : take left (drop skip (stretched_notes all (drop i ss))) ≡ front ++ rest
    parts =
        ap (λ l. take left (drop skip (stretched_notes all l))) (drop_more ss i d there)
        ∙ part_of_two left skip passed taken (notes_in all (get_or ss i d)) (stretched_notes all (drop (i + 1) ss)) passes takes

-- ---- stretches behind the others

pub clones_same : (xs ys : List KeptBack) → AllZip (λ (k copy : KeptBack). copy ≡ k) xs ys → ys ≡ xs
clones_same [] [] so = refl
clones_same [] (y ∷ ys) so = absurd so
clones_same (x ∷ xs) [] so = absurd so
clones_same (x ∷ xs) (y ∷ ys) so = ap (λ z. z ∷ ys) so.0 ∙ ap (λ l. x ∷ l) (clones_same xs ys so.1)

pub clones_behind : (old new more : List KeptBack) → AppendsClones (λ (k copy : KeptBack). copy ≡ k) old new more → new ≡ old ++ more
clones_behind old new more so = so.1 ∙ ap (λ l. old ++ l) (clones_same more so.0 so.2)

abbrev pub whole_records : ℕ → ℕ → ℕ → List KeptBack → Stretch
whole_records from first q each = record { first = first; count = q; from = from; len = length each }

abbrev pub part_record : ℕ → ℕ → ℕ → Stretch
part_record from first r = record { first = first; count = 1; from = from; len = r }

behind_all : (all each : List KeptBack) (n : ℕ) → take n (drop (length all) (all ++ each)) ≡ take n each
behind_all all each n = ap (take n) (drop-append_seam all each)

-- what is added is sound, and stands for the front of the notes
record IsAdded (all each : List KeptBack) (added : List Stretch) (first count most : ℕ) : Type 0 where
  within : AllByRecursion (IsWithinEach (all ++ each)) added
  notes : stretched_notes (all ++ each) added ≡ take most (notes_of_stretch first count each)

added_both : (all each : List KeptBack) (first count q r most : ℕ) → first + count ≤ 2 ^ 32 → q * length each + r ≡ most → r < length each → most ≤ count * length each → 0 < r
    → IsAdded all each (whole_records (length all) first q each ∷ part_record (length all) (first + q) r ∷ []) first count most
added_both all each first count q r most places is few there some = record {
  within = (record { there = omega (arith, length-append all each); places = omega (arith, places, less) }, (record { there = omega (arith, length-append all each, few); places = omega (arith, places, less) }, tt));
  notes =
      ap (λ e. notes_of_stretch first q e ++ (notes_of_stretch (first + q) 1 (take r (drop (length all) (all ++ each))) ++ [])) (behind_all all each (length each) ∙ take_all (length each) each (omega arith))
      ∙ ap (λ l. notes_of_stretch first q each ++ l) (append-nil (notes_of_stretch (first + q) 1 (take r (drop (length all) (all ++ each)))) ∙ ap (notes_of_stretch (first + q) 1) (behind_all all each r))
      ∙ sym (front_records first q r count each (omega (arith, is, there)) few) ∙ ap (λ n. take n (notes_of_stretch first count each)) is;
} where
  less : q < count
  less = lt_from_times q count (length each) (omega (arith, is, there, some))

added_whole : (all each : List KeptBack) (first count q r most : ℕ) → first + count ≤ 2 ^ 32 → q * length each + r ≡ most → r < length each → most ≤ count * length each → r ≡ 0
    → IsAdded all each (whole_records (length all) first q each ∷ []) first count most
added_whole all each first count q r most places is few there none = record {
  within = (record { there = omega (arith, length-append all each); places = omega (arith, places, less) }, tt);
  notes =
      ap (λ e. notes_of_stretch first q e ++ []) (behind_all all each (length each) ∙ take_all (length each) each (omega arith))
      ∙ ap (λ n. notes_of_stretch first q each ++ notes_of_stretch (first + q) 1 (take n each)) (sym none)
      ∙ sym (front_records first q r count each (omega (arith, is, there)) few) ∙ ap (λ n. take n (notes_of_stretch first count each)) is;
} where
  less : q < count + 1
  less = lt_from_times q (count + 1) (length each) (omega (arith, is, there, few))

pub record HasAdded (all : List KeptBack) (ss : List Stretch) (notes : ℕ) (old : List Note) (more : List Note) : Type 0 where
  pub sound : AreStretched all ss notes
  pub same : stretched_notes all ss ≡ old ++ more

has_added : (all each grown : List KeptBack) (ss added new : List Stretch) (old : List Note) (first count most notes : ℕ) → AreStretched all ss notes → stretched_notes all ss ≡ old → grown ≡ all ++ each → new ≡ ss ++ added
    → most ≤ count * length each → IsAdded all each added first count most → HasAdded grown new (notes + most) old (take most (notes_of_stretch first count each))
has_added all each grown ss added new old first count most notes was seen grows adds there so =
    subst (λ (g : List KeptBack). HasAdded g new (notes + most) old (take most (notes_of_stretch first count each))) (sym grows)
    (subst (λ (n : List Stretch). HasAdded (all ++ each) n (notes + most) old (take most (notes_of_stretch first count each))) (sym adds)
    (record {
      sound = record {
        within = within_both (all ++ each) ss added (within_more all each ss was.within) so.within;
        counted = omega (arith, was.counted, ap (λ (l : List Note). length l) seen, ap (λ (l : List Note). length l) all_notes, length-append old (take most (notes_of_stretch first count each)), length-take most (notes_of_stretch first count each), length-stretch first count each, there);
      };
      same = all_notes;
    }))
  where
    all_notes : stretched_notes (all ++ each) (ss ++ added) ≡ old ++ take most (notes_of_stretch first count each)
    all_notes =
        flat_map-append (notes_in (all ++ each)) ss added ∙ ap (λ l. l ++ stretched_notes (all ++ each) added) (notes_more all each ss was.within ∙ seen)
        ∙ ap (λ l. old ++ l) so.notes

pub added_with_part : (all each grown : List KeptBack) (ss mid new : List Stretch) (old : List Note) (from first count q r most notes : ℕ) → AreStretched all ss notes → stretched_notes all ss ≡ old → grown ≡ all ++ each
    → from ≡ length all → mid ≡ ss ++ whole_records from first q each ∷ [] → new ≡ mid ++ part_record from (first + q) r ∷ [] → first + count ≤ 2 ^ 32 → q ≡ most / length each → r ≡ most % length each → 0 < length each → most ≤ count * length each → 0 < r
    → HasAdded grown new (notes + most) old (take most (notes_of_stretch first count each))
added_with_part all each grown ss mid new old from first count q r most notes was seen grows begins one two places whole part some there left =
    has_added all each grown ss (whole_records (length all) first q each ∷ part_record (length all) (first + q) r ∷ []) new old first count most notes was seen grows
    (two ∙ ap (λ m. m ++ part_record from (first + q) r ∷ []) one ∙ ap (λ n. (ss ++ whole_records n first q each ∷ []) ++ part_record n (first + q) r ∷ []) begins ∙ append_assoc ss (whole_records (length all) first q each ∷ []) (part_record (length all) (first + q) r ∷ [])) there
    (added_both all each first count q r most places (ap (λ n. n * length each + r) whole ∙ ap (λ n. most / length each * length each + n) part ∙ div-add-mod' most (length each)) (omega (arith, part, mod_below most (length each) some)) there left)

pub added_without : (all each grown : List KeptBack) (ss new : List Stretch) (old : List Note) (from first count q r most notes : ℕ) → AreStretched all ss notes → stretched_notes all ss ≡ old → grown ≡ all ++ each
    → from ≡ length all → new ≡ ss ++ whole_records from first q each ∷ [] → first + count ≤ 2 ^ 32 → q ≡ most / length each → r ≡ most % length each → 0 < length each → most ≤ count * length each → r ≡ 0
    → HasAdded grown new (notes + most) old (take most (notes_of_stretch first count each))
added_without all each grown ss new old from first count q r most notes was seen grows begins one places whole part some there none =
    has_added all each grown ss (whole_records (length all) first q each ∷ []) new old first count most notes was seen grows (one ∙ ap (λ n. ss ++ whole_records n first q each ∷ []) begins) there
    (added_whole all each first count q r most places (ap (λ n. n * length each + r) whole ∙ ap (λ n. most / length each * length each + n) part ∙ div-add-mod' most (length each)) (omega (arith, part, mod_below most (length each) some)) there none)

pub room_left : (out more : List AuditEntry) (f : Note → AuditEntry) (notes : List Note) (left taken capacity : ℕ) → more ≡ out ++ map f (take taken notes) → length out + left ≤ capacity → taken ≤ left → length more + (left - taken) ≤ capacity
room_left out more f notes left taken capacity pushed room few =
    omega (arith, ap (λ (l : List AuditEntry). length l) pushed, length-append out (map f (take taken notes)), length-map (take taken notes) f, length-take taken notes, room, few)

pub seen_there : (all seen : List KeptBack) (ss listed : List Stretch) (i : ℕ) (d : Stretch) → seen ≡ all → listed ≡ ss → notes_in seen (get_or listed i d) ≡ notes_in all (get_or ss i d)
seen_there all seen ss listed i d same one = ap (λ (a : List KeptBack). notes_in a (get_or listed i d)) same ∙ ap (λ (l : List Stretch). notes_in all (get_or l i d)) one

-- so many notes need no more than so many pieces of each record
pub record IsEnough (most first count : ℕ) (each front : List KeptBack) : Type 0 where
  pub some : 1 ≤ length front
  pub there : most ≤ count * length front
  pub same : take most (notes_of_stretch first count front) ≡ take most (notes_of_stretch first count each)

pub front_of_each : (most first count n : ℕ) (each : List KeptBack) → 1 ≤ most → most ≤ count * length each → n ≡ min (length each) most → IsEnough most first count each (take n each)
front_of_each most first count n each some there is = by (cases_lt most (length each)) where
  one : (n : ℕ) → most ≤ n * length each → 1 ≤ n
  one zero within = absurd (omega (arith, within, some))
  one (suc n) within = omega arith

  piece : (l : ℕ) → most ≤ count * l → 1 ≤ l
  piece zero within = absurd (omega (arith, within, some))
  piece (suc l) within = omega arith

  few : (n : ℕ) → most < length each → take most (notes_of_stretch first n (take most each)) ≡ take most (notes_of_stretch first n each)
  few zero less = refl
  few (suc n) less =
      take-append-le most (map (note_at first) (take most each)) (notes_of_stretch (suc first) n (take most each)) (omega (arith, length-map (take most each) (note_at first), length-take most each, less))
      ∙ take_all most (map (note_at first) (take most each)) (omega (arith, length-map (take most each) (note_at first), length-take most each))
      ∙ sym (take-map (note_at first) most each)
      ∙ sym (take-append-le most (map (note_at first) each) (notes_of_stretch (suc first) n each) (omega (arith, length-map each (note_at first), less)))

  cut : most < length each → length (take most each) ≡ most
  cut less = omega (arith, length-take most each, less)

  by : (most < length each) ⊎ (length each ≤ most) → IsEnough most first count each (take n each)
  by (inl less) =
      let front : take most each ≡ take n each = ap (λ (k : ℕ). take k each) (omega (arith, less, is)) in
      subst (λ (e : List KeptBack). IsEnough most first count each e) front
      (record {
        some = omega (arith, length-take most each, less, some);
        there = omega (arith, mul-le 1 most count most (one count there) (omega arith), ap (λ (n : ℕ). count * n) (cut less));
        same = few count less;
      })
  by (inr more) =
      subst (λ (e : List KeptBack). IsEnough most first count each e) (sym (take_all n each (omega (arith, more, is))))
      (record { some = piece (length each) there; there = there; same = refl })
