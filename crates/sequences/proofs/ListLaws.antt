-- Laws of lists beside those of std.
use Rattle.std.proofs.Common.{◌≡◌, ℕ, suc, false, eqb, ◌+◌, ◌<◌, List, [], ◌∷◌, ◌++◌, length, get_or, take, drop, sym, ap, ◌∙◌, append-nil, arith}
use Rattle.std.specs.List.{AllByRecursion, concat}
use Rattle.std.proofs.lemmas.List.{drop_more}
use Rattle.std.proofs.lemmas.List.Folds.{concat-append}

pub AllByRecursion-append : {A : Type 0} (P : A → Type 0) (xs ys : List A) → AllByRecursion P xs → AllByRecursion P ys → AllByRecursion P (xs ++ ys)
AllByRecursion-append P [] ys p q = q
AllByRecursion-append P (x ∷ xs) ys p q = (p.0, AllByRecursion-append P xs ys p.1 q)

-- the number stands nowhere in the list
abbrev pub Lacks : ℕ → List ℕ → Type 0
Lacks n xs = AllByRecursion (λ x. eqb x n ≡ false) xs

-- what is left of a list at an item that was read at its place
pub drop_read : {A : Type 0} (xs : List A) (i : ℕ) (x : A) → i < length xs → x ≡ get_or xs i x → drop i xs ≡ x ∷ drop (i + 1) xs
drop_read xs i x low is = drop_more xs i x low ∙ ap (λ y. y ∷ drop (i + 1) xs) (sym is)

-- a front that reaches past the first of two lists
pub take-add-append : {A : Type 0} (xs ys : List A) (n : ℕ) → take (length xs + n) (xs ++ ys) ≡ xs ++ take n ys
take-add-append [] ys n = ap (λ k. take k ys) none where
  none : 0 + n ≡ n
  none = omega arith
take-add-append (x ∷ xs) ys n = ap (λ k. take k (x ∷ (xs ++ ys))) next ∙ ap (λ t. x ∷ t) (take-add-append xs ys n) where
  next : length (x ∷ xs) + n ≡ suc (length xs + n)
  next = omega arith

-- one list more
pub concat_push : (texts : List (List ℕ)) (text : List ℕ) → concat (texts ++ text ∷ []) ≡ concat texts ++ text
concat_push texts text = concat-append texts (text ∷ []) ∙ ap (λ (t : List ℕ). concat texts ++ t) (append-nil text)
