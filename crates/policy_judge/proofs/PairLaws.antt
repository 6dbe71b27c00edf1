-- Two lists side by side, as a loop over their places sees them.
use Rattle.std.proofs.Common.{◌≡◌, ℕ, ◌+◌, ◌<◌, ◌≤◌, Bool, List, [], ◌∷◌, ◌++◌, length, take, get_or, Option, Some, None, refl, sym, ap, ◌∙◌, arith, ◌||◌}
use Rattle.std.specs.List.{list_any, filter_map, zip, cons_option}
use Rattle.std.proofs.lemmas.List.{append-nil, take_more, take_all}
use Rattle.std.proofs.lemmas.List.Elements.{filter_map-append}
use Rattle.std.proofs.lemmas.Slice.Zip.{length-zip, get_or-zip}

-- the lists are as long as one another, and this is at the place in the first
pub record IsAt {A B : Type 0} (xs : List A) (ys : List B) (i : ℕ) (x : A) : Type 0 where
  pub even : length xs ≡ length ys
  pub within : i < length xs
  pub is : x ≡ get_or xs i x

-- so there is a pair at the place, of it and what is there in the second
pub pair_within : {A B : Type 0} (xs : List A) (ys : List B) (i : ℕ) (x : A) → IsAt xs ys i x → i < length (zip xs ys)
pair_within xs ys i x at = omega (arith, length-zip xs ys, at.even, at.within)

pub pair_at : {A B : Type 0} (xs : List A) (ys : List B) (i : ℕ) (x : A) (e : B) → IsAt xs ys i x → get_or (zip xs ys) i (x, e) ≡ (x, get_or ys i e)
pair_at xs ys i x e at = get_or-zip xs ys i (x, e) at.within (omega (arith, at.even, at.within)) ∙ ap (λ a. (a, get_or ys i e)) (sym at.is)

-- past the last place all pairs were seen
pub all_pairs : {A B : Type 0} (xs : List A) (ys : List B) (i : ℕ) → length xs ≤ i → take i (zip xs ys) ≡ zip xs ys
all_pairs xs ys i le = take_all i (zip xs ys) (omega (arith, length-zip xs ys, le))

-- ---- a test

-- a test of the first alone
pub any_first : {A B : Type 0} (test : A → Bool) (xs : List A) (ys : List B) → length xs ≡ length ys → list_any (λ (p : A × B). test p.0) (zip xs ys) ≡ list_any test xs
any_first test [] ys even = refl
any_first test (x ∷ xs) [] even = absurd (omega (arith, even))
any_first test (x ∷ xs) (y ∷ ys) even = ap (λ b. test x || b) (any_first test xs ys (omega (arith, even)))

-- ---- what is picked

pick_next : {A B C : Type 0} (pick : A × B → Option C) (now next : List C) (xs : List A) (ys : List B) (i : ℕ) (x : A) (e : B) → IsAt xs ys i x
    → now ≡ filter_map pick (take i (zip xs ys)) → next ≡ now ++ cons_option (pick (x, get_or ys i e)) [] → next ≡ filter_map pick (take (i + 1) (zip xs ys))
pick_next pick now next xs ys i x e at was one =
    one ∙ ap (λ l. l ++ cons_option (pick (x, get_or ys i e)) []) was ∙ sym (ap (λ p. filter_map pick (take i (zip xs ys)) ++ cons_option (pick p) []) (pair_at xs ys i x e at))
    ∙ sym (ap (filter_map pick) (take_more (zip xs ys) i (x, e) (pair_within xs ys i x at)) ∙ filter_map-append pick (take i (zip xs ys)) (get_or (zip xs ys) i (x, e) ∷ []))

-- one more
pub pick_some : {A B C : Type 0} (pick : A × B → Option C) (now next : List C) (xs : List A) (ys : List B) (i : ℕ) (x : A) (e : B) (c : C) → IsAt xs ys i x
    → now ≡ filter_map pick (take i (zip xs ys)) → pick (x, get_or ys i e) ≡ Some c → next ≡ now ++ c ∷ [] → next ≡ filter_map pick (take (i + 1) (zip xs ys))
pick_some pick now next xs ys i x e c at was this one = pick_next pick now next xs ys i x e at was (one ∙ sym (ap (λ o. now ++ cons_option o []) this))

-- none more
pub pick_none : {A B C : Type 0} (pick : A × B → Option C) (now next : List C) (xs : List A) (ys : List B) (i : ℕ) (x : A) (e : B) → IsAt xs ys i x
    → now ≡ filter_map pick (take i (zip xs ys)) → pick (x, get_or ys i e) ≡ None → next ≡ now → next ≡ filter_map pick (take (i + 1) (zip xs ys))
pick_none pick now next xs ys i x e at was this same = pick_next pick now next xs ys i x e at was (same ∙ sym (append-nil now) ∙ sym (ap (λ o. now ++ cons_option o []) this))

pub pick_end : {A B C : Type 0} (pick : A × B → Option C) (now : List C) (xs : List A) (ys : List B) (i : ℕ) → length xs ≤ i → now ≡ filter_map pick (take i (zip xs ys)) → now ≡ filter_map pick (zip xs ys)
pick_end pick now xs ys i le is = is ∙ ap (filter_map pick) (all_pairs xs ys i le)
