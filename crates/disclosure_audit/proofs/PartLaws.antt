-- Fronts and rests of two lists in one.
use Rattle.std.proofs.Common.{◌≡◌, ℕ, zero, suc, ◌-◌, List, [], ◌∷◌, ◌++◌, length, take, drop, sym, ap, ◌∙◌, arith}
use Rattle.std.specs.Prelude.{min}
use Rattle.std.proofs.lemmas.List.{take_min, drop_min, length-drop}

pub taken_of_two : {X : Type 0} → (n : ℕ) (xs ys : List X) → take n (xs ++ ys) ≡ take n xs ++ take (n - length xs) ys
taken_of_two zero xs ys = ap (λ m. take m ys) none where
  none : 0 ≡ 0 - length xs
  none = omega arith
taken_of_two (suc n) [] ys = ap (λ m. take m ys) same where
  same : suc n ≡ suc n - 0
  same = omega arith
taken_of_two (suc n) (x ∷ xs) ys = ap (λ l. x ∷ l) (taken_of_two n xs ys ∙ ap (λ m. take n xs ++ take m ys) same) where
  same : n - length xs ≡ suc n - suc (length xs)
  same = omega arith

pub dropped_of_two : {X : Type 0} → (n : ℕ) (xs ys : List X) → drop n (xs ++ ys) ≡ drop n xs ++ drop (n - length xs) ys
dropped_of_two zero xs ys = ap (λ m. xs ++ drop m ys) none where
  none : 0 ≡ 0 - length xs
  none = omega arith
dropped_of_two (suc n) [] ys = ap (λ m. drop m ys) same where
  same : suc n ≡ suc n - 0
  same = omega arith
dropped_of_two (suc n) (x ∷ xs) ys = dropped_of_two n xs ys ∙ ap (λ m. drop n xs ++ drop m ys) same where
  same : n - length xs ≡ suc n - suc (length xs)
  same = omega arith

-- a part of two lists: what is passed and taken of the first, and the rest of the other
pub part_of_two : {X : Type 0} → (left skip passed taken : ℕ) (xs ys : List X) → passed ≡ min skip (length xs) → taken ≡ min left (length xs - passed)
    → take left (drop skip (xs ++ ys)) ≡ take taken (drop passed xs) ++ take (left - taken) (drop (skip - passed) ys)
part_of_two {X} left skip passed taken xs ys passes takes =
    ap (take left) (dropped_of_two skip xs ys) ∙ taken_of_two left (drop skip xs) (drop (skip - length xs) ys)
    ∙ ap (λ t. t ++ take (left - length (drop skip xs)) (drop (skip - length xs) ys)) front
    ∙ ap (λ n. take taken (drop passed xs) ++ take n (drop (skip - length xs) ys)) fewer
    ∙ ap (λ n. take taken (drop passed xs) ++ take (left - taken) (drop n ys)) behind
  where
    front : take left (drop skip xs) ≡ take taken (drop passed xs)
    front =
        sym (take_min left (drop skip xs)) ∙ ap (λ n. take n (drop skip xs)) (omega (arith, length-drop skip xs, passes, takes))
        ∙ ap (take taken) (sym (drop_min skip xs) ∙ ap (λ n. drop n xs) (sym passes))

    fewer : left - length (drop skip xs) ≡ left - taken
    fewer = omega (arith, length-drop skip xs, passes, takes)

    behind : skip - length xs ≡ skip - passed
    behind = omega (arith, passes)
