-- Texts that wait: where each stands, and how many fit a room.
use Rattle.std.proofs.Common.{◌≡◌, ℕ, zero, suc, ◌+◌, ◌-◌, ◌<◌, ◌≤◌, Bool, true, false, cond, leb, List, [], ◌∷◌, ◌++◌, length, get_or, take, drop, refl, sym, ap, ◌∙◌, arith, length-append, length-drop}
use Rattle.std.specs.List.{concat}
use Rattle.std.proofs.lemmas.Bool.{le-leb, lt-leb, leb-true}
use Rattle.std.proofs.lemmas.List.{length-take-le, take_all, take_more, drop_more, drop_all}
use Rattle.ipfix_records.specs.Pieces.{pieces, AreEnds}
use Rattle.ipfix_records.proofs.PieceLaws.{length_pieces, take_pieces, concat_pieces, ends_ascend, ends_of_first, end_within}
use Rattle.subscriber_stream.specs.Texts.{fitting_texts}

-- ---- where they stand

pub drop_pieces : (n : ℕ) (octets : List ℕ) (from : ℕ) (ends : List ℕ) → n ≤ length ends → drop n (pieces octets from ends) ≡ pieces octets (get_or (from ∷ ends) n 0) (drop n ends)
drop_pieces zero octets from ends le = refl
drop_pieces (suc n) octets from [] le = absurd (omega arith)
drop_pieces (suc n) octets from (e ∷ es) le = drop_pieces n octets e es (omega arith)

pub ends_of_rest : (n from : ℕ) (ends : List ℕ) (last : ℕ) → n ≤ length ends → AreEnds from ends last → AreEnds (get_or (from ∷ ends) n 0) (drop n ends) last
ends_of_rest zero from ends last le are = are
ends_of_rest (suc n) from [] last le are = absurd (omega arith)
ends_of_rest (suc n) from (e ∷ es) last le are = ends_of_rest n e es last (omega arith) are.1

pub count_few : (octets : List ℕ) (from : ℕ) (ends : List ℕ) (count : ℕ) → count ≤ length (pieces octets from ends) → count ≤ length ends
count_few octets from ends count le = omega (arith, le, length_pieces octets from ends)

-- the first of them, from where they begin to where they end
pub record IsFront (octets : List ℕ) (from : ℕ) (ends : List ℕ) (n end : ℕ) : Type 0 where
  pub behind : from ≤ end
  pub within : end ≤ length octets
  pub shown : take (end - from) (drop from octets) ≡ concat (take n (pieces octets from ends))
  pub counted : end - from ≡ length (concat (take n (pieces octets from ends)))

pub is_front : (octets : List ℕ) (from : ℕ) (ends : List ℕ) (n end : ℕ) → n ≤ length ends → AreEnds from ends (length octets) → end ≡ get_or (from ∷ ends) n 0 → IsFront octets from ends n end
is_front octets from ends n end le are is =
    let first = ends_of_first n from ends (length octets) le are in
    let from_le : from ≤ end = omega (arith, is, ends_ascend from (take n ends) (get_or (from ∷ ends) n 0) first) in
    let end_le : end ≤ length octets = omega (arith, is, end_within n from ends (length octets) le are) in
    let texts : take (end - from) (drop from octets) ≡ concat (take n (pieces octets from ends)) = sym (ap concat (take_pieces n octets from ends) ∙ concat_pieces octets from (take n ends) (get_or (from ∷ ends) n 0) first ∙ ap (λ (e : ℕ). take (e - from) (drop from octets)) (sym is)) in
    record {
      behind = from_le;
      within = end_le;
      shown = texts;
      counted = sym (length-take-le (end - from) (drop from octets) (omega (arith, end_le, length-drop from octets))) ∙ ap length texts;
    }

-- ---- how many fit

-- so many fit, and how many more do is still to be seen
pub record AreFitting (room : ℕ) (texts : List (List ℕ)) (count : ℕ) : Type 0 where
  pub within : count ≤ length texts
  pub few : length (concat (take count texts)) ≤ room
  pub others : count + fitting_texts (room - length (concat (take count texts))) (drop count texts) ≡ fitting_texts room texts

pub none_fitting : (room : ℕ) (texts : List (List ℕ)) → AreFitting room texts 0
none_fitting room texts =
    let whole : room - 0 ≡ room = omega arith in
    record { within = omega arith; few = omega arith; others = omega (arith, ap (λ (n : ℕ). fitting_texts n texts) whole) }

-- one text more
length_concat_more : (texts : List (List ℕ)) (count : ℕ) → count < length texts → length (concat (take (count + 1) texts)) ≡ length (concat (take count texts)) + length (get_or texts count [])
length_concat_more texts count lt = ap (λ (ts : List (List ℕ)). length (concat ts)) (take_more texts count [] lt) ∙ pushed (take count texts) (get_or texts count []) where
  pushed : (ts : List (List ℕ)) (t : List ℕ) → length (concat (ts ++ t ∷ [])) ≡ length (concat ts) + length t
  pushed [] t = omega (arith, length-append t [])
  pushed (s ∷ ts) t = omega (arith, length-append s (concat (ts ++ t ∷ [])), length-append s (concat ts), pushed ts t)

pub over_fitting : (room : ℕ) (texts : List (List ℕ)) (count octets : ℕ) → AreFitting room texts count → count < length texts → octets ≡ length (concat (take (count + 1) texts)) → room < octets → count ≡ fitting_texts room texts
over_fitting room texts count octets are lt is over =
    let text = get_or texts count [] in
    let left = room - length (concat (take count texts)) in
    let more = length_concat_more texts count lt in
    let none : fitting_texts left (drop count texts) ≡ 0 = ap (fitting_texts left) (drop_more texts count [] lt) ∙ ap (λ (b : Bool). cond b (suc (fitting_texts (left - length text) (drop (count + 1) texts))) 0) (lt-leb (length text) left (omega (arith, more, is, over, are.few))) in
    omega (arith, are.others, none)

pub more_fitting : (room : ℕ) (texts : List (List ℕ)) (count octets : ℕ) → AreFitting room texts count → count < length texts → octets ≡ length (concat (take (count + 1) texts)) → octets ≤ room → AreFitting room texts (count + 1)
more_fitting room texts count octets are lt is le =
    let text = get_or texts count [] in
    let left = room - length (concat (take count texts)) in
    let more = length_concat_more texts count lt in
    let fits : fitting_texts left (drop count texts) ≡ suc (fitting_texts (left - length text) (drop (count + 1) texts)) = ap (fitting_texts left) (drop_more texts count [] lt) ∙ ap (λ (b : Bool). cond b (suc (fitting_texts (left - length text) (drop (count + 1) texts))) 0) (le-leb (length text) left (omega (arith, more, is, le))) in
    let same : left - length text ≡ room - length (concat (take (count + 1) texts)) = omega (arith, more) in
    record {
      within = omega (arith, lt);
      few = omega (arith, is, le);
      others = omega (arith, are.others, fits, ap (λ (n : ℕ). fitting_texts n (drop (count + 1) texts)) same);
    }

pub all_fitting : (room : ℕ) (texts : List (List ℕ)) (count : ℕ) → AreFitting room texts count → length texts ≤ count → count ≡ fitting_texts room texts
all_fitting room texts count are all =
    let none : fitting_texts (room - length (concat (take count texts))) (drop count texts) ≡ 0 = ap (fitting_texts (room - length (concat (take count texts)))) (drop_all count texts all) in
    omega (arith, are.others, none)

-- all fit where they have no more octets together
whole_fitting : (room : ℕ) (texts : List (List ℕ)) → length (concat texts) ≤ room → fitting_texts room texts ≡ length texts
whole_fitting room [] le = refl
whole_fitting room (text ∷ texts) le =
    let both = length-append text (concat texts) in
    ap (λ (b : Bool). cond b (suc (fitting_texts (room - length text) texts)) 0) (le-leb (length text) room (omega (arith, both, le))) ∙ ap suc (whole_fitting (room - length text) texts (omega (arith, both, le)))

pub none_left_over : (room : ℕ) (texts : List (List ℕ)) (count octets : ℕ) → count ≡ length texts → octets ≡ length (concat (take count texts)) → octets ≤ room → count ≡ fitting_texts room texts
none_left_over room texts count octets all is le =
    let whole : take count texts ≡ texts = take_all count texts (omega (arith, all)) in
    let few : length (concat texts) ≤ room = omega (arith, is, le, ap (λ (ts : List (List ℕ)). length (concat ts)) whole) in
    omega (arith, all, whole_fitting room texts few)

-- at most all fit
pub fitting_few : (room : ℕ) (texts : List (List ℕ)) → fitting_texts room texts ≤ length texts
fitting_few room [] = omega arith
fitting_few room (text ∷ texts) = by_test (leb (length text) room) (fitting_few (room - length text) texts) where
  by_test : (b : Bool) → fitting_texts (room - length text) texts ≤ length texts → cond b (suc (fitting_texts (room - length text) texts)) 0 ≤ suc (length texts)
  by_test true others = omega arith
  by_test false others = omega arith

pub few_fitting : (room : ℕ) (texts : List (List ℕ)) (count : ℕ) → count ≡ fitting_texts room texts → count ≤ length texts
few_fitting room texts count is = omega (arith, is, fitting_few room texts)

-- and they have at most so many octets
pub fitting_small : (room : ℕ) (texts : List (List ℕ)) → length (concat (take (fitting_texts room texts) texts)) ≤ room
fitting_small room [] = omega arith
fitting_small room (text ∷ texts) = by_test (leb (length text) room) refl (fitting_small (room - length text) texts) where
  by_test : (b : Bool) → leb (length text) room ≡ b → length (concat (take (fitting_texts (room - length text) texts) texts)) ≤ room - length text → length (concat (take (cond b (suc (fitting_texts (room - length text) texts)) 0) (text ∷ texts))) ≤ room
  by_test true is others =
      omega (arith, others, leb-true (length text) room is, length-append text (concat (take (fitting_texts (room - length text) texts) texts)))
  by_test false is others = omega arith
