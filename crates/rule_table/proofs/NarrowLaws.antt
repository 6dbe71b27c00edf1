-- How many of ascending cuts are below an address, by each 16th of them.
use Rattle.std.proofs.Common.{◌≡◌, ◌⊎◌, ℕ, zero, suc, ◌+◌, ◌-◌, ◌*◌, ◌<◌, ◌≤◌, List, [], ◌∷◌, ◌++◌, cond, length, min, take, drop, get_or, ap, sym, ◌∙◌, arith, inl, inr, nat_lt, length-drop}
use Rattle.std.specs.List.Sorted.{IsNonDecreasing}
use Rattle.std.proofs.lemmas.Bool.{cases_lt, le-ltb}
use Rattle.std.proofs.lemmas.List.{get_or-take, get_or-drop, get_or_append_left, length-take-le}
use Rattle.std.proofs.Math.Seq.{get_or-append_seam}
use Rattle.std.proofs.lemmas.List.Sorted.{IsNonDecreasingBy-take, IsNonDecreasingBy-drop, IsNonDecreasingBy-from_default, IsNonDecreasingBy-push}
use Rattle.std.proofs.lemmas.List.Sums.{count_by-le-length, sum_by_push}
use Rattle.std.proofs.lemmas.Grind.{get_or_default_zero}
use Rattle.rule_table.specs.Classes.{class_of}
use Rattle.rule_table.specs.Narrow.{AreTops, AreBlocks, AreNarrow, IsBlock}
use Rattle.rule_table.proofs.CountLaws.{class_at, one_more}

-- so many are below the address, and those behind are not
pub record IsPoint (cuts : List ℕ) (address n : ℕ) : Type 0 where
  pub below : (k : ℕ) → k < n → get_or cuts k 0 < address
  pub above : (k : ℕ) → n ≤ k → k < length cuts → address ≤ get_or cuts k 0

tail_ascends : (cut : ℕ) (cuts : List ℕ) → IsNonDecreasing (cut ∷ cuts) → IsNonDecreasing cuts
tail_ascends cut cuts up i j d le lt = up (suc i) (suc j) d (omega (arith, le)) (omega (arith, lt))

all_above : (cuts : List ℕ) (address : ℕ) → ((k : ℕ) → k < length cuts → address ≤ get_or cuts k 0) → 0 ≡ class_of cuts address
all_above cuts address above = class_at cuts address 0 (omega arith) (λ k l. absurd (omega (arith, l))) (λ k l m. above k m)

point_by : (cut : ℕ) (cuts : List ℕ) (address : ℕ) → IsNonDecreasing (cut ∷ cuts) → IsPoint cuts address (class_of cuts address) → (cut < address) ⊎ (address ≤ cut) → IsPoint (cut ∷ cuts) address (class_of (cut ∷ cuts) address)
point_by cut cuts address up rest (inl less) =
    let n = class_of cuts address in
    let one : class_of (cut ∷ cuts) address ≡ 1 + n = one_more cut cuts address less in
    record {
      below = λ k l. below_by k (omega (arith, l, one));
      above = λ k l m. above_by k (omega (arith, l, one)) m;
    } where
      below_by : (k : ℕ) → k < 1 + class_of cuts address → get_or (cut ∷ cuts) k 0 < address
      below_by zero l = less
      below_by (suc k) l = rest.below k (omega (arith, l))

      above_by : (k : ℕ) → 1 + class_of cuts address ≤ k → k < length (cut ∷ cuts) → address ≤ get_or (cut ∷ cuts) k 0
      above_by zero l m = absurd (omega (arith, l))
      above_by (suc k) l m = rest.above k (omega (arith, l)) (omega (arith, m))
point_by cut cuts address up rest (inr le) =
    let above : (k : ℕ) → k < length (cut ∷ cuts) → address ≤ get_or (cut ∷ cuts) k 0 = λ k m. omega (arith, le, up 0 k 0 (omega arith) m) in
    let none = all_above (cut ∷ cuts) address above in
    record {
      below = λ k l. absurd (omega (arith, l, none));
      above = λ k l m. above k m;
    }

-- of ascending cuts so many are below the address as there are before the first that isn't
pub point_of : (cuts : List ℕ) (address : ℕ) → IsNonDecreasing cuts → IsPoint cuts address (class_of cuts address)
point_of [] address up = record { below = λ k l. absurd (let none : class_of [] address ≡ 0 = omega arith in omega (arith, l, none)); above = λ k l m. absurd (omega (arith, m)) }
point_of (cut ∷ cuts) address up = point_by cut cuts address up (point_of cuts address (tail_ascends cut cuts up)) (cases_lt cut address)

pub tops_ascend : (cuts tops : List ℕ) → IsNonDecreasing cuts → AreTops cuts tops → IsNonDecreasing tops
tops_ascend cuts tops up are =
    IsNonDecreasingBy-from_default (λ n. n) tops 0 (λ i j le lt. omega (arith, are.each i (omega (arith, le, lt)), are.each j lt, up (16 * i) (16 * j) 0 (omega (arith, le)) (omega (arith, lt, are.all))))

-- ---- the block in which the cuts end that are below an address

-- it begins with the last top that is below the address, or with the first where none is
pub block_at : (cuts tops : List ℕ) (address n : ℕ) → IsNonDecreasing cuts → AreTops cuts tops → 0 < length tops → length cuts ≡ 16 * length tops → n ≡ class_of tops address → IsBlock cuts address (16 * (n - 1))
block_at cuts tops address n up are some whole is = record {
  within = omega (arith, some, whole, few, is);
  before = λ k l. omega (arith, point.below (n - 1) (omega (arith, l, is)), are.each (n - 1) (omega (arith, l, few, is)), up k (16 * (n - 1)) 0 (omega (arith, l)) (omega (arith, l, few, is, whole)));
  behind = λ k le lt. let there : n < length tops = omega (arith, le, lt, whole) in omega (arith, point.above n (omega (arith, is)) there, are.each n there, up (16 * n) k 0 (omega (arith, le)) lt);
} where
  point : IsPoint tops address (class_of tops address)
  point = point_of tops address (tops_ascend cuts tops up are)

  few : class_of tops address ≤ length tops
  few = count_by-le-length (λ top. nat_lt top address) tops

in_block : (cuts : List ℕ) (from to j : ℕ) → j < to - from → get_or (take (to - from) (drop from cuts)) j 0 ≡ get_or cuts (from + j) 0
in_block cuts from to j l = get_or-take (to - from) (drop from cuts) j 0 l ∙ get_or-drop from cuts j 0

-- the cuts before this part of them are below the address, and those behind it are not
pub record IsPart (cuts : List ℕ) (address from to : ℕ) : Type 0 where
  pub ordered : from ≤ to
  pub within : to ≤ length cuts
  pub before : (k : ℕ) → k < from → get_or cuts k 0 < address
  pub behind : (k : ℕ) → to ≤ k → k < length cuts → address ≤ get_or cuts k 0

-- the class is that of the cuts before the part, which are all below the address, and of the part
pub class_in_part : (cuts : List ℕ) (address from to : ℕ) → IsNonDecreasing cuts → IsPart cuts address from to → from + class_of (take (to - from) (drop from cuts)) address ≡ class_of cuts address
class_in_part cuts address from to up part =
    class_at cuts address (from + class_of (take (to - from) (drop from cuts)) address) (omega (arith, few, wide, part.within, part.ordered)) (λ k l. below_by k l (cases_lt k from)) (λ k l m. above_by k l m (cases_lt k to)) where
      wide : length (take (to - from) (drop from cuts)) ≡ to - from
      wide = length-take-le (to - from) (drop from cuts) (omega (arith, length-drop from cuts, part.within, part.ordered))

      few : class_of (take (to - from) (drop from cuts)) address ≤ length (take (to - from) (drop from cuts))
      few = count_by-le-length (λ cut. nat_lt cut address) (take (to - from) (drop from cuts))

      point : IsPoint (take (to - from) (drop from cuts)) address (class_of (take (to - from) (drop from cuts)) address)
      point = point_of (take (to - from) (drop from cuts)) address (IsNonDecreasingBy-take (λ n. n) (to - from) (drop from cuts) (IsNonDecreasingBy-drop (λ n. n) from cuts up))

      below_by : (k : ℕ) → k < from + class_of (take (to - from) (drop from cuts)) address → (k < from) ⊎ (from ≤ k) → get_or cuts k 0 < address
      below_by k l (inl before) = part.before k before
      below_by k l (inr behind) =
          let j = k - from in
          let here : from + j ≡ k = omega (arith, behind) in
          let less : get_or (take (to - from) (drop from cuts)) j 0 < address = point.below j (omega (arith, l, behind)) in
          omega (arith, less, in_block cuts from to j (omega (arith, l, behind, few, wide)), ap (λ i. get_or cuts i 0) here)

      above_by : (k : ℕ) → from + class_of (take (to - from) (drop from cuts)) address ≤ k → k < length cuts → (k < to) ⊎ (to ≤ k) → address ≤ get_or cuts k 0
      above_by k l m (inr behind) = part.behind k (omega (arith, behind)) m
      above_by k l m (inl before) =
          let j = k - from in
          let here : from + j ≡ k = omega (arith, l) in
          let le : address ≤ get_or (take (to - from) (drop from cuts)) j 0 = point.above j (omega (arith, l)) (omega (arith, wide, before, l)) in
          omega (arith, le, in_block cuts from to j (omega (arith, before, l)), ap (λ i. get_or cuts i 0) here)

-- where the cuts end in a block that are below the address
pub class_in_block : (cuts : List ℕ) (address from to : ℕ) → IsNonDecreasing cuts → IsBlock cuts address from → to ≡ from + 16 → from + class_of (take (to - from) (drop from cuts)) address ≡ class_of cuts address
class_in_block cuts address from to up b ends = class_in_part cuts address from to up (record {
  ordered = omega (arith, ends);
  within = omega (arith, b.within, ends);
  before = λ k l. b.before k l;
  behind = λ k le lt. b.behind k (omega (arith, le, ends)) lt;
})

-- the part between what is at least and at most the class
pub part_between : (cuts : List ℕ) (address low high to : ℕ) → IsNonDecreasing cuts → low ≤ class_of cuts address → class_of cuts address ≤ high → to ≡ min high (length cuts) → IsPart cuts address low to
part_between cuts address low high to up least most is =
    let point = point_of cuts address up in
    let few : class_of cuts address ≤ length cuts = count_by-le-length (λ cut. nat_lt cut address) cuts in
    record {
      ordered = omega (arith, least, most, is, few);
      within = omega (arith, is);
      before = λ k l. point.below k (omega (arith, l, least));
      behind = λ k le lt. point.above k (omega (arith, le, lt, is, most)) lt;
    }

-- ---- blocks of blocks

-- where there is more than one block, the tops are whole blocks, and there is a summit
pub record AreHigh (cuts tops summits : List ℕ) : Type 0 where
  pub tops_whole : length cuts ≡ 16 * length tops
  pub summits_whole : length tops ≡ 16 * length summits
  pub some : 0 < length summits

pub high_of : (cuts tops summits : List ℕ) → AreNarrow cuts tops summits → (length cuts ≡ 16 → ⊥) → AreHigh cuts tops summits
high_of cuts tops summits are more = high_by are.whole where
  high_by : AreBlocks (length cuts) → AreHigh cuts tops summits
  high_by (inl one) = absurd (more one)
  high_by (inr (n, some, is)) =
      let tops_are : length tops ≡ 16 * n = omega (arith, is, are.each_top.all, are.each_top.few) in
      let summits_are : length summits ≡ n = omega (arith, tops_are, are.each_summit.all, are.each_summit.few) in
      record { tops_whole = omega (arith, is, tops_are); summits_whole = omega (arith, tops_are, summits_are); some = omega (arith, some, summits_are) }

-- ---- the highest address behind the cuts

pub filled : (cuts : List ℕ) (high address : ℕ) → address ≤ high → class_of (cuts ++ high ∷ []) address ≡ class_of cuts address
filled cuts high address le =
    sum_by_push (λ c. cond (nat_lt c address) 1 0) cuts high ∙ ap (λ b. class_of cuts address + cond b 1 0) (le-ltb high address le) ∙ omega arith

pub filled_ascends : (cuts : List ℕ) (high : ℕ) → IsNonDecreasing cuts → ((k : ℕ) → k < length cuts → get_or cuts k 0 ≤ high) → IsNonDecreasing (cuts ++ high ∷ [])
filled_ascends cuts high up le = IsNonDecreasingBy-push (λ n. n) cuts high up (λ d some. omega (arith, le (length cuts - 1) (omega (arith, some)), get_or_default_zero cuts (length cuts - 1) d (omega (arith, some))))

pub filled_low : (cuts : List ℕ) (high above k : ℕ) → ((j : ℕ) → j < length cuts → get_or cuts j 0 < above) → high < above → k < length cuts + 1 → get_or (cuts ++ high ∷ []) k 0 < above
filled_low cuts high above k low last l = by_place (cases_lt k (length cuts)) where
  by_place : (k < length cuts) ⊎ (length cuts ≤ k) → get_or (cuts ++ high ∷ []) k 0 < above
  by_place (inl inside) = omega (arith, get_or_append_left cuts (high ∷ []) 0 k inside, low k inside)
  by_place (inr behind) =
      let end : k ≡ length cuts = omega (arith, behind, l) in
      omega (arith, ap (λ i. get_or (cuts ++ high ∷ []) i 0) end, get_or-append_seam cuts high [] 0, last)

-- ---- the addresses between two cuts

-- a cut below which there are fewer than below the address is below the address
pub cut_below : (cuts : List ℕ) (address class k : ℕ) → IsNonDecreasing cuts → class ≡ class_of cuts address → k < class → get_or cuts k 0 < address
cut_below cuts address class k up is l = (point_of cuts address up).below k (omega (arith, l, is))

pub cut_above : (cuts : List ℕ) (address class k : ℕ) → IsNonDecreasing cuts → class ≡ class_of cuts address → class ≤ k → k < length cuts → address ≤ get_or cuts k 0
cut_above cuts address class k up is l m = (point_of cuts address up).above k (omega (arith, l, is)) m

-- addresses that lie between the same cuts have the same class
pub same_class : (cuts : List ℕ) (address other class : ℕ) → class ≡ class_of cuts address → ((k : ℕ) → k < class → get_or cuts k 0 < other)
    → ((k : ℕ) → class ≤ k → k < length cuts → other ≤ get_or cuts k 0) → class_of cuts other ≡ class
same_class cuts address other class is below above = sym (class_at cuts other class (omega (arith, is, count_by-le-length (λ cut. nat_lt cut address) cuts)) below above)
