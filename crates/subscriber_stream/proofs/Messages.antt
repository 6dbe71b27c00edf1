-- The message of parts that wait: its octets and its length.
use Rattle.std.proofs.Common.{◌≡◌, ℕ, suc, zero, ◌+◌, ◌%◌, ◌^◌, Bool, true, false, cond, leb, List, [], ◌∷◌, ◌++◌, length, take, Option, None, refl, sym, ap, ◌∙◌, arith, length-append, max}
use Rattle.std.specs.Prelude.{nat_le}
use Rattle.std.proofs.lemmas.Bool.{le-leb, lt-leb, leb-true, leb-false}
use Rattle.sequences.specs.Octets.{be_octets}
use Rattle.ipfix_template.specs.declared.template.Template.{Template}
use Rattle.subscriber_stream.specs.Parts.{Part}
use Rattle.subscriber_stream.specs.Message.{body, message, last_passing, is_within, run_length}
use Rattle.subscriber_stream.specs.Items.{Item, part_of, stream_parts, AreItemsKept, data_set, cost, total, fits, set_pieces}
use Rattle.subscriber_stream.proofs.Bodies.{body_pieces, length-pieces}
use Rattle.subscriber_stream.proofs.Pieces.{kept_take}
use Rattle.std.proofs.lemmas.List.{length-map, take-map}

abbrev pub header : ℕ → ℕ → ℕ → List ℕ
header octets now sequence = be_octets 2 10 ++ be_octets 2 octets ++ be_octets 4 now ++ be_octets 4 sequence ++ be_octets 4 0

pub message_pieces : (shapes : List Template) (ws : List Item) (now handed octets : ℕ) → AreItemsKept shapes ws → octets ≡ 16 + total None ws → message now handed (stream_parts shapes ws) ≡ header octets now (handed % 2 ^ 32) ++ set_pieces shapes None ws
unfolding message
message_pieces shapes ws now handed octets kept is =
    let same = body_pieces shapes ws kept in
    let len : 16 + length (body (stream_parts shapes ws)) ≡ octets = omega (arith, ap length same, length-pieces shapes None ws kept, is) in
    ap (λ (n : ℕ). header n now (handed % 2 ^ 32) ++ body (stream_parts shapes ws)) len ∙ ap (λ (t : List ℕ). header octets now (handed % 2 ^ 32) ++ t) same

-- the time and the number do not change the length
pub length-message : (now sequence : ℕ) (ps : List Part) → length (message now sequence ps) ≡ 16 + length (body ps)
unfolding message
length-message now sequence ps = length-append (header (16 + length (body ps)) now (sequence % 2 ^ 32)) (body ps)

pub length-waiting : (shapes : List Template) (ws : List Item) → AreItemsKept shapes ws → length (message 0 0 (stream_parts shapes ws)) ≡ 16 + total None ws
length-waiting shapes ws kept =
    omega (arith, length-message 0 0 (stream_parts shapes ws), ap length (body_pieces shapes ws kept), length-pieces shapes None ws kept)

-- ---- the longest run

last_passing-same : (p q : ℕ → Bool) (n : ℕ) → ((k : ℕ) → p k ≡ q k) → last_passing p n ≡ last_passing q n
last_passing-same p q zero same = refl
last_passing-same p q (suc n) same = rw (same (suc n), last_passing-same p q n same) refl

last_passing-none : (p : ℕ → Bool) (n : ℕ) → ((k : ℕ) → p (suc k) ≡ false) → last_passing p n ≡ 0
last_passing-none p zero none = refl
last_passing-none p (suc n) none = rw (none n) (last_passing-none p n none)

last_passing-some : (p : ℕ → Bool) (n : ℕ) → p 1 ≡ true → last_passing p (suc n) ≡ suc (last_passing (λ k. p (suc k)) n)
last_passing-some p zero first = rw first refl
last_passing-some p (suc n) first = by_test (p (suc (suc n))) (last_passing-some p n first) where
  by_test : (b : Bool) → last_passing p (suc n) ≡ suc (last_passing (λ k. p (suc k)) n) → cond b (suc (suc n)) (last_passing p (suc n)) ≡ suc (cond b (suc n) (last_passing (λ k. p (suc k)) n))
  by_test true others = refl
  by_test false others = others

-- what is counted part by part is the longest run
pub fits-last_passing : (target : ℕ) (last : Option ℕ) (octets : ℕ) (ws : List Item) → fits target last octets ws ≡ last_passing (λ n. nat_le (octets + total last (take n ws)) target) (length ws)
fits-last_passing target last octets [] = refl
fits-last_passing target last octets (w ∷ ws) =
    by_test (leb (octets + cost last w) target) refl (fits-last_passing target (data_set w) (octets + cost last w) ws) where
      by_test : (b : Bool) → leb (octets + cost last w) target ≡ b → fits target (data_set w) (octets + cost last w) ws ≡ last_passing (λ n. nat_le ((octets + cost last w) + total (data_set w) (take n ws)) target) (length ws)
          → cond b (suc (fits target (data_set w) (octets + cost last w) ws)) 0 ≡ last_passing (λ n. nat_le (octets + total last (take n (w ∷ ws))) target) (suc (length ws))
      by_test true is others =
          let passes = leb-true (octets + cost last w) target is in
          let first : leb (octets + (cost last w + 0)) target ≡ true = le-leb _ target (omega arith) in
          let moved : last_passing (λ n. nat_le ((octets + cost last w) + total (data_set w) (take n ws)) target) (length ws) ≡ last_passing (λ n. nat_le (octets + (cost last w + total (data_set w) (take n ws))) target) (length ws) = last_passing-same _ _ (length ws) (λ k. (let sums : (octets + cost last w) + total (data_set w) (take k ws) ≡ octets + (cost last w + total (data_set w) (take k ws)) = omega arith in ap (λ (m : ℕ). nat_le m target) sums)) in
          ap suc (others ∙ moved) ∙ sym (last_passing-some (λ n. nat_le (octets + total last (take n (w ∷ ws))) target) (length ws) first)
      by_test false is others =
          let over = leb-false (octets + cost last w) target is in
          sym (last_passing-none (λ n. nat_le (octets + total last (take n (w ∷ ws))) target) (suc (length ws)) (λ k. lt-leb _ target (omega arith)))

pub run_length-waiting : (shapes : List Template) (target : ℕ) (ws : List Item) → AreItemsKept shapes ws → run_length target (stream_parts shapes ws) ≡ max 1 (fits target None 16 ws)
unfolding run_length
run_length-waiting shapes target ws kept =
    let len : length (stream_parts shapes ws) ≡ length ws = length-map ws (part_of shapes) in
    let tests : (k : ℕ) → is_within target (take k (stream_parts shapes ws)) ≡ nat_le (16 + total None (take k ws)) target = λ k. ap (λ (t : List Part). is_within target t) (take-map (part_of shapes) k ws) ∙ ap (λ (n : ℕ). nat_le n target) (length-waiting shapes (take k ws) (kept_take shapes k ws kept)) in
    ap (max 1) (last_passing-same _ _ (length (stream_parts shapes ws)) tests ∙ ap (last_passing (λ n. nat_le (16 + total None (take n ws)) target)) len ∙ sym (fits-last_passing target None 16 ws))

-- what stands behind nothing
pub behind_none : (out before more : List ℕ) → before ≡ [] → out ≡ before ++ more → out ≡ more
behind_none out before more none is = is ∙ ap (λ (t : List ℕ). t ++ more) none
