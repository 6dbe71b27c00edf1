-- The two sides of a byte.
use Rattle.std.proofs.Common.{◌≡◌, ℕ, suc, ◌+◌, ◌<◌, ◌≤◌, not, eqb, List, [], ◌∷◌, ◌++◌, length, get_or, take, drop, Some, refl, sym, ap, ◌∙◌, arith, ⊎_elim, length-append}
use Rattle.std.specs.List.{position_or_len}
use Rattle.std.proofs.lemmas.List.{take_at, drop_more, take-append-drop}
use Rattle.std.proofs.lemmas.List.Sums.{prefix_len_stops}
use Rattle.std.proofs.lemmas.Option.{none-some, some_pair_parts}
use Rattle.std.proofs.lemmas.Bool.{not-false, eqb-true, eq-eqb, lt-ltb, le-ltb, cases_lt}
use Rattle.sequences.proofs.ListLaws.{Lacks}
use Rattle.flow_prefix.specs.Reading.{cut_at}

place_middle : (byte : ℕ) (front rest : List ℕ) → Lacks byte front → position_or_len (λ c. eqb c byte) (front ++ byte ∷ rest) ≡ length front
place_middle byte [] rest h = rw (eq-eqb byte byte refl) refl
place_middle byte (c ∷ cs) rest h = let after = place_middle byte cs rest h.1 in rw h.0 (omega (arith, after))

drop_middle : (byte : ℕ) (front rest : List ℕ) → drop (length front + 1) (front ++ byte ∷ rest) ≡ rest
drop_middle byte [] rest = refl
drop_middle byte (c ∷ cs) rest = let e : length (c ∷ cs) + 1 ≡ suc (length cs + 1) = omega arith in rw e (drop_middle byte cs rest)

pub cut_at-middle : (byte : ℕ) (front rest : List ℕ) → Lacks byte front → cut_at byte (front ++ byte ∷ rest) ≡ Some (front, rest)
unfolding cut_at
cut_at-middle byte front rest h =
    let place = place_middle byte front rest h in
    let inside = lt-ltb (length front) (length (front ++ byte ∷ rest)) (omega (arith, length-append front (byte ∷ rest))) in
    rw (place, inside, take_at front (byte ∷ rest) (length front) refl, drop_middle byte front rest) refl

pub cut_at-text : (byte : ℕ) (text before after : List ℕ) → cut_at byte text ≡ Some (before, after) → text ≡ before ++ byte ∷ after
unfolding cut_at
cut_at-text byte text before after e =
    let i = position_or_len (λ c. eqb c byte) text in
    ⊎_elim (λ (h : position_or_len (λ c. eqb c byte) text < length text).
    let found = rw (lt-ltb i (length text) h) at e in
    let sides = some_pair_parts (take i text) before (drop (i + 1) text) after found in
    let stops = prefix_len_stops (λ c. not (eqb c byte)) text 0 h in
    let same = eqb-true (get_or text i 0) byte (not-false (eqb (get_or text i 0) byte) stops) in
    sym (take-append-drop i text)
    ∙ ap (λ t. take i text ++ t) (drop_more text i 0 h ∙ ap (λ c. c ∷ drop (i + 1) text) same)
    ∙ ap (λ t. t ++ byte ∷ drop (i + 1) text) sides.0
    ∙ ap (λ t. before ++ byte ∷ t) sides.1)
    (λ (h : length text ≤ position_or_len (λ c. eqb c byte) text).
    let none = rw (le-ltb i (length text) h) at e in
    absurd (none-some (before, after) none))
    (cases_lt (position_or_len (λ c. eqb c byte) text) (length text))
