-- The class of an address lies between what the entries for its head and for the next one say.
use Rattle.std.proofs.Common.{◌≡◌, ◌==◌, ◌⊎◌, ℕ, ◌+◌, ◌-◌, ◌*◌, ◌/◌, ◌%◌, ◌^◌, ◌<◌, ◌≤◌, Bool, true, false, cond, List, [], ◌∷◌, ◌++◌, length, get_or, Option, Some, None, IfSome, min, refl, sym, ap, subst, ◌∙◌, arith, inl, inr, nat_lt, length-append}
use Rattle.std.specs.List.Sorted.{IsNonDecreasing}
use Rattle.std.proofs.Math.Nat.{div-mul-le_self, lt-div-mul-add, add-mul, pow-le-pow_right}
use Rattle.std.proofs.lemmas.Nat.{pow-add, pow_pos, div_below, one_shl}
use Rattle.std.proofs.lemmas.Bool.{cases_lt, eqb-true}
use Rattle.std.proofs.lemmas.List.{get_or_append_left}
use Rattle.std.proofs.Math.Seq.{get_or-append_seam}
use Rattle.std.proofs.lemmas.List.Sums.{count_by-le-length}
use Rattle.rule_table.specs.declared.heads.Heads.{Heads}
use Rattle.rule_table.specs.Classes.{class_of}
use Rattle.rule_table.specs.Heads.{IsStart, AreStarts, sure_class, IsBetween, AreHeads}
use Rattle.rule_table.specs.Narrow.{AreBlocks, IsBlock}
use Rattle.rule_table.proofs.CountLaws.{at_least}
use Rattle.rule_table.proofs.NarrowLaws.{point_of}

-- ---- what the entries say of an address

most_by : (cuts : List ℕ) (heads unit head : ℕ) (starts : List ℕ) (address : ℕ) → AreStarts cuts heads unit starts → head < heads → address < heads * unit → address < head * unit + unit → (head + 1 < heads) ⊎ (heads ≤ head + 1) → class_of cuts address ≤ get_or starts (head + 1) 0 / 2
most_by cuts heads unit head starts address are within less high (inl more) =
    let next = (are.each (head + 1) more).first in
    let begins : (head + 1) * unit ≡ head * unit + 1 * unit = add-mul head 1 unit in
    omega (arith, next, at_least cuts address ((head + 1) * unit) (omega (arith, begins, high)))
most_by cuts heads unit head starts address are within less high (inr last) =
    let end : heads ≡ head + 1 = omega (arith, within, last) in
    subst (λ (k : ℕ). class_of cuts address ≤ get_or starts k 0 / 2) end (are.last address less)

pub between_of : (cuts : List ℕ) (heads unit : ℕ) (starts : List ℕ) (address : ℕ) → 0 < unit → AreStarts cuts heads unit starts → address < heads * unit → IsBetween cuts address (get_or starts (address / unit) 0) (get_or starts (address / unit + 1) 0)
between_of cuts heads unit starts address some are less =
    let head = address / unit in
    let low : head * unit ≤ address = div-mul-le_self address unit in
    let high : address < head * unit + unit = lt-div-mul-add some in
    let within : head < heads = div_below address unit heads some less in
    let start = are.each head within in
    let least : class_of cuts (head * unit) ≤ class_of cuts address = at_least cuts (head * unit) address low in
    let most : class_of cuts address ≤ class_of cuts (head * unit + (unit - 1)) = at_least cuts address (head * unit + (unit - 1)) (omega (arith, high, some)) in
    record {
      least = omega (arith, start.first, least);
      most = most_by cuts heads unit head starts address are within less high (cases_lt (head + 1) heads);
      sure = λ odd. let last = start.sure odd in omega (arith, start.first, least, most, last);
    }

-- ---- by the number of bits

pub heads_of : (cuts : List ℕ) (width bits : ℕ) (heads : Heads) → 0 < bits → bits ≤ width → heads.shift ≡ width - bits → AreStarts cuts (2 ^ bits) (2 ^ heads.shift) heads.starts.items → AreHeads cuts width heads
heads_of cuts width bits heads some few is are =
    let unit = 2 ^ heads.shift in
    let whole : 2 ^ width ≡ 2 ^ bits * unit = ap (λ n. 2 ^ n) (let e : width ≡ bits + heads.shift = omega (arith, few, is) in e) ∙ pow-add 2 bits heads.shift in
    record {
      shift = omega (arith, some, few, is);
      each = λ address less.
          let below : address < 2 ^ bits * unit = omega (arith, less, whole) in
          let head : address / unit < 2 ^ bits = div_below address unit (2 ^ bits) (pow_pos heads.shift) below in
          record {
            within = omega (arith, head, are.count);
            between = between_of cuts (2 ^ bits) unit heads.starts.items address (pow_pos heads.shift) are below;
          };
    }

-- the numbers that the code makes by shifts
pub units_fit : (width bits : ℕ) → bits ≤ 16 → 16 < width → width ≤ 128 → 0 < bits → (0 < (1 * 2 ^ (width - bits)) % 2 ^ 128) × ((1 * 2 ^ bits) % 2 ^ 64 * ((1 * 2 ^ (width - bits)) % 2 ^ 128) ≤ 2 ^ 128)
units_fit width bits few less wide some =
    let unit : (1 * 2 ^ (width - bits)) % 2 ^ 128 ≡ 2 ^ (width - bits) = one_shl (width - bits) 128 (omega arith) in
    let heads : (1 * 2 ^ bits) % 2 ^ 64 ≡ 2 ^ bits = one_shl bits 64 (omega arith) in
    let all : bits + (width - bits) ≡ width = omega arith in
    let whole : 2 ^ bits * 2 ^ (width - bits) ≡ 2 ^ width = sym (pow-add 2 bits (width - bits)) ∙ ap (λ (n : ℕ). 2 ^ n) all in
    let most : 2 ^ width ≤ 2 ^ 128 = pow-le-pow_right (omega arith) wide in
    let product : (1 * 2 ^ bits) % 2 ^ 64 * ((1 * 2 ^ (width - bits)) % 2 ^ 128) ≡ 2 ^ bits * 2 ^ (width - bits) =
    ap (λ (h : ℕ). h * ((1 * 2 ^ (width - bits)) % 2 ^ 128)) heads ∙ ap (λ (u : ℕ). 2 ^ bits * u) unit in
    (omega (arith, unit, pow_pos (width - bits)), omega (arith, product, whole, most))

pub heads_by : (cuts : List ℕ) (width bits : ℕ) (heads : Heads) → 0 < bits → bits ≤ 16 → 16 < width → width ≤ 128 → heads.shift ≡ width - bits
    → AreStarts cuts ((1 * 2 ^ bits) % 2 ^ 64) ((1 * 2 ^ (width - bits)) % 2 ^ 128) heads.starts.items → AreHeads cuts width heads
heads_by cuts width bits heads some few less wide is are =
    let unit : (1 * 2 ^ (width - bits)) % 2 ^ 128 ≡ 2 ^ heads.shift = one_shl (width - bits) 128 (omega arith) ∙ ap (λ (n : ℕ). 2 ^ n) (sym is) in
    let count : (1 * 2 ^ bits) % 2 ^ 64 ≡ 2 ^ bits = one_shl bits 64 (omega arith) in
    heads_of cuts width bits heads some (omega arith) is
    (subst (λ (u : ℕ). AreStarts cuts (2 ^ bits) u heads.starts.items) unit (subst (λ (h : ℕ). AreStarts cuts h ((1 * 2 ^ (width - bits)) % 2 ^ 128) heads.starts.items) count are))

between_alike : (cuts others : List ℕ) (address entry next : ℕ) → class_of others address ≡ class_of cuts address → IsBetween cuts address entry next → IsBetween others address entry next
between_alike cuts others address entry next same was = record {
  least = omega (arith, was.least, same);
  most = omega (arith, was.most, same);
  sure = λ odd. same ∙ was.sure odd;
}

-- cuts of which as many are below each address have the same heads
pub heads_alike : (cuts others : List ℕ) (width : ℕ) (heads : Heads) → ((address : ℕ) → address < 2 ^ width → class_of others address ≡ class_of cuts address) → AreHeads cuts width heads → AreHeads others width heads
heads_alike cuts others width heads same are = record {
  shift = are.shift;
  each = λ address less.
      let say = are.each address less in
      record {
        within = say.within;
        between = between_alike cuts others address (get_or heads.starts.items (address / 2 ^ heads.shift) 0) (get_or heads.starts.items (address / 2 ^ heads.shift + 1) 0) (same address less) say.between;
      };
}

-- ---- the entries, head by head

-- those of the heads before this one; so many cuts are below the last address before it
pub record AreSome (cuts : List ℕ) (unit head below : ℕ) (starts : List ℕ) : Type 0 where
  pub count : length starts ≡ head
  pub each : (k : ℕ) → k < head → IsStart cuts unit k (get_or starts k 0)
  pub within : below ≤ length cuts
  pub before : (k : ℕ) → k < below → get_or cuts k 0 < head * unit
  pub last : (address : ℕ) → address < head * unit → class_of cuts address ≤ below

pub none_yet : (cuts : List ℕ) (unit : ℕ) → AreSome cuts unit 0 0 []
none_yet cuts unit = record {
  count = omega arith;
  each = λ k l. absurd (omega (arith, l));
  within = omega arith;
  before = λ k l. absurd (omega (arith, l));
  last = λ address l. let none : 0 * unit ≡ 0 = omega arith in absurd (omega (arith, l, none));
}

start_at : (cuts : List ℕ) (unit head low next entry : ℕ) → low ≡ class_of cuts (head * unit) → next ≡ class_of cuts (head * unit + (unit - 1)) → entry / 2 ≡ low → (entry % 2 ≡ 1 → next ≡ low) → IsStart cuts unit head entry
start_at cuts unit head low next entry is_low is_next half sure = record {
  first = half ∙ is_low;
  sure = λ odd. sym is_next ∙ sure odd ∙ sym half;
}

each_by : (cuts : List ℕ) (unit head entry : ℕ) (starts : List ℕ) → length starts ≡ head → ((k : ℕ) → k < head → IsStart cuts unit k (get_or starts k 0)) → IsStart cuts unit head entry
    → (k : ℕ) → (k < head) ⊎ (head ≤ k) → k < head + 1 → IsStart cuts unit k (get_or (starts ++ entry ∷ []) k 0)
each_by cuts unit head entry starts count each here k (inl l) m =
    subst (λ (e : ℕ). IsStart cuts unit k e) (sym (get_or_append_left starts (entry ∷ []) 0 k (omega (arith, l, count)))) (each k l)
each_by cuts unit head entry starts count each here k (inr l) m =
    let end : length starts ≡ k = omega (arith, l, m, count) in
    let is : head ≡ k = omega (arith, l, m) in
    let there : get_or (starts ++ entry ∷ []) k 0 ≡ entry = ap (λ i. get_or (starts ++ entry ∷ []) i 0) (sym end) ∙ get_or-append_seam starts entry [] 0 in
    subst (λ (e : ℕ). IsStart cuts unit k e) (sym there) (subst (λ (h : ℕ). IsStart cuts unit h entry) is here)

length_push : (starts : List ℕ) (entry : ℕ) → length (starts ++ entry ∷ []) ≡ length starts + 1
length_push starts entry = omega (arith, length-append starts (entry ∷ []))

pub one_more_start : (cuts : List ℕ) (unit head below low next entry : ℕ) (starts more : List ℕ) → IsNonDecreasing cuts → 0 < unit → AreSome cuts unit head below starts → low ≡ class_of cuts (head * unit) → next ≡ class_of cuts (head * unit + (unit - 1))
    → entry / 2 ≡ low → (entry % 2 ≡ 1 → next ≡ low) → more ≡ starts ++ entry ∷ [] → AreSome cuts unit (head + 1) next more
one_more_start cuts unit head below low next entry starts more up some were is_low is_next half sure grown =
    let begins : (head + 1) * unit ≡ head * unit + 1 * unit = add-mul head 1 unit in
    let few : class_of cuts (head * unit + (unit - 1)) ≤ length cuts = count_by-le-length (λ cut. nat_lt cut (head * unit + (unit - 1))) cuts in
    let point = point_of cuts (head * unit + (unit - 1)) up in
    let all : AreSome cuts unit (head + 1) next (starts ++ entry ∷ []) = record {
      count = omega (arith, length_push starts entry, were.count);
      each = λ k m. each_by cuts unit head entry starts were.count were.each (start_at cuts unit head low next entry is_low is_next half sure) k (cases_lt k head) m;
      within = omega (arith, few, is_next);
      before = λ k l. omega (arith, point.below k (omega (arith, l, is_next)), begins, some);
      last = λ address l. omega (arith, at_least cuts address (head * unit + (unit - 1)) (omega (arith, l, begins, some)), is_next);
    } in
    subst (λ (xs : List ℕ). AreSome cuts unit (head + 1) next xs) (sym grown) all

pub all_starts : (cuts : List ℕ) (unit heads below entry : ℕ) (starts more : List ℕ) → AreSome cuts unit heads below starts → entry / 2 ≡ below → more ≡ starts ++ entry ∷ [] → AreStarts cuts heads unit more
all_starts cuts unit heads below entry starts more were half grown =
    let end : get_or (starts ++ entry ∷ []) heads 0 ≡ entry = ap (λ i. get_or (starts ++ entry ∷ []) i 0) (sym were.count) ∙ get_or-append_seam starts entry [] 0 in
    let all : AreStarts cuts heads unit (starts ++ entry ∷ []) = record {
      count = omega (arith, length_push starts entry, were.count);
      each = λ head l. subst (λ (e : ℕ). IsStart cuts unit head e) (sym (get_or_append_left starts (entry ∷ []) 0 head (omega (arith, l, were.count)))) (were.each head l);
      last = λ address l. omega (arith, were.last address l, half, end);
    } in
    subst (λ (xs : List ℕ). AreStarts cuts heads unit xs) (sym grown) all

-- ---- for the calls

known_by : (cuts : List ℕ) (address entry : ℕ) (b : Bool) → (entry % 2 == 1) ≡ b → (entry % 2 ≡ 1 → class_of cuts address ≡ entry / 2) → IfSome (cond b (Some (entry / 2)) None) (λ class. class ≡ class_of cuts address)
known_by cuts address entry true is sure = sym (sure (eqb-true (entry % 2) 1 is))
known_by cuts address entry false is sure = tt

pub known : (cuts : List ℕ) (address entry next : ℕ) (result : Option ℕ) → result ≡ sure_class entry → IsBetween cuts address entry next → IfSome result (λ class. class ≡ class_of cuts address)
known cuts address entry next result is between =
    subst (λ (o : Option ℕ). IfSome o (λ class. class ≡ class_of cuts address)) (sym is) (known_by cuts address entry (entry % 2 == 1) refl between.sure)

pub known_few : (cuts : List ℕ) (address most : ℕ) (result : Option ℕ) → length cuts ≤ most → IfSome result (λ class. class ≡ class_of cuts address) → IfSome result (λ class. class ≤ most)
known_few cuts address most None few is = tt
known_few cuts address most (Some class) few is = omega (arith, is, few, count_by-le-length (λ cut. nat_lt cut address) cuts)

pub block_between : (cuts : List ℕ) (address low high from : ℕ) → IsNonDecreasing cuts → 16 ≤ length cuts → low ≤ class_of cuts address → class_of cuts address ≤ high → high ≤ low + 16 → from ≡ min low (length cuts - 16) → IsBlock cuts address from
block_between cuts address low high from up whole least most near is =
    let point = point_of cuts address up in
    record {
      within = omega (arith, whole, is);
      before = λ k l. point.below k (omega (arith, l, is, least));
      behind = λ k le lt. point.above k (omega (arith, le, lt, is, near, most, whole)) lt;
    }

pub some_block : (cuts : List ℕ) → AreBlocks (length cuts) → 16 ≤ length cuts
some_block cuts (inl one) = omega (arith, one)
some_block cuts (inr (n, some, is)) = omega (arith, some, is)
