-- Words that are joined by an octet that stands in none of them are found again by splitting there.
use Rattle.std.proofs.Common.{◌≡◌, ℕ, ◌^◌, ◌<◌, ◌≤◌, Bool, true, false, not, eqb, List, [], ◌∷◌, ◌++◌, refl, sym, ap, ◌∙◌, arith}
use Rattle.std.specs.List.{list_all, slice_split, join_with_byte, All, AllByRecursion}
use Rattle.std.specs.Char.{digit_value}
use Rattle.std.specs.Fmt.{decimal}
use Rattle.std.specs.Str.Parse.{AllDigits}
use Rattle.std.proofs.lemmas.Fmt.{decimal_is_IsNumeral}
use Rattle.std.proofs.lemmas.List.Folds.{list_all-append}
use Rattle.std.proofs.lemmas.Bool.{ne_eqb, and_parts, and_from, not-true}
use Rattle.sequences.proofs.JoinLaws.{split-joined}
use Rattle.std.proofs.lemmas.List.Elements.{All-from_recursion}

-- the octet stands nowhere in the word
abbrev pub lacks : ℕ → List ℕ → Bool
lacks c word = list_all (λ b. not (eqb b c)) word

abbrev pub all_lack : ℕ → List (List ℕ) → Bool
all_lack c words = list_all (lacks c) words

abbrev pub parted : ℕ → List ℕ → List (List ℕ)
parted c text = slice_split (λ b. eqb b c) text

lacks-all : (c : ℕ) (word : List ℕ) → lacks c word ≡ true → AllByRecursion (λ b. eqb b c ≡ false) word
lacks-all c [] h = tt
lacks-all c (b ∷ word) h =
    let both = and_parts (not (eqb b c)) (lacks c word) h in
    (not-true (eqb b c) both.0, lacks-all c word both.1)

all_lack-each : (c : ℕ) (words : List (List ℕ)) → all_lack c words ≡ true → AllByRecursion (All (λ b. eqb b c ≡ false)) words
all_lack-each c [] h = tt
all_lack-each c (word ∷ words) h =
    let both = and_parts (lacks c word) (all_lack c words) h in
    (All-from_recursion (λ b. eqb b c ≡ false) word (lacks-all c word both.0), all_lack-each c words both.1)

parted-joined : (c : ℕ) (word : List ℕ) (words : List (List ℕ)) → eqb c c ≡ true → all_lack c (word ∷ words) ≡ true → parted c (join_with_byte c (word ∷ words)) ≡ word ∷ words
parted-joined c word words same h = split-joined (λ b. eqb b c) c word words same (all_lack-each c (word ∷ words) h)

-- so words that lack the octet are the same where their joins are
pub joined_same : (c : ℕ) (v : List ℕ) (vs : List (List ℕ)) (w : List ℕ) (ws : List (List ℕ)) → eqb c c ≡ true → all_lack c (v ∷ vs) ≡ true → all_lack c (w ∷ ws) ≡ true → join_with_byte c (v ∷ vs) ≡ join_with_byte c (w ∷ ws) → v ∷ vs ≡ w ∷ ws
joined_same c v vs w ws same left right e =
    sym (parted-joined c v vs same left) ∙ ap (parted c) e ∙ parted-joined c w ws same right

pub lacks-append : (c : ℕ) (xs ys : List ℕ) → lacks c xs ≡ true → lacks c ys ≡ true → lacks c (xs ++ ys) ≡ true
lacks-append c xs ys h k = list_all-append (λ b. not (eqb b c)) xs ys ∙ and_from (lacks c xs) (lacks c ys) h k

-- a join lacks what its words and the octet between them are not
pub lacks-joined : (c d : ℕ) (words : List (List ℕ)) → eqb d c ≡ false → all_lack c words ≡ true → lacks c (join_with_byte d words) ≡ true
lacks-joined c d [] other h = refl
lacks-joined c d (word ∷ []) other h = (and_parts (lacks c word) true h).0
lacks-joined c d (word ∷ next ∷ words) other h =
    let both = and_parts (lacks c word) (all_lack c (next ∷ words)) h in
    lacks-append c word (d ∷ join_with_byte d (next ∷ words)) both.0 (rw other (lacks-joined c d (next ∷ words) other both.1))

digits_lack : (c : ℕ) (word : List ℕ) → 10 ≤ digit_value c → AllDigits 10 word → lacks c word ≡ true
digits_lack c [] high h = refl
digits_lack c (b ∷ word) high h =
    let other : eqb b c ≡ false = ne_eqb b c (λ (same : b ≡ c). let e : digit_value b ≡ digit_value c = ap digit_value same in omega (arith, e, h.0, high)) in
    and_from (not (eqb b c)) (lacks c word) (ap not other) (digits_lack c word high h.1)

-- a number lacks what is no digit
pub lacks-decimal : (c n : ℕ) → 10 ≤ digit_value c → n < 2 ^ 64 → lacks c (decimal n) ≡ true
lacks-decimal c n high small = digits_lack c (decimal n) high (decimal_is_IsNumeral n small).0.1
