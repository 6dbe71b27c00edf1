-- Words without blanks and line feeds, and the lines of such words.
use Rattle.std.proofs.Common.{◌≡◌, ℕ, zero, suc, ◌^◌, ◌<◌, Bool, true, false, not, ◌&&◌, eqb, List, [], ◌∷◌, ◌++◌, length, filter, map, refl, sym, ap, ◌∙◌, arith, append_assoc, length-append}
use Rattle.std.specs.List.{All, AllByRecursion, list_all, join_with_byte, flat_map}
use Rattle.std.specs.Char.{is_digit}
use Rattle.std.specs.Fmt.{decimal}
use Rattle.std.proofs.lemmas.Fmt.{decimal_is_IsNumeral}
use Rattle.std.proofs.lemmas.List.Splits.{slice_split_at}
use Rattle.std.proofs.lemmas.Bool.{ne_eqb, false≢true, and_parts, and_from, not-true}
use Rattle.numerals.proofs.NumeralLaws.{test_from_AllDigits}
use Rattle.sequences.proofs.ListLaws.{AllByRecursion-append, Lacks}
use Rattle.std.proofs.lemmas.List.Elements.{All-from_recursion}
use Rattle.sequences.proofs.JoinLaws.{split-joined}
use Rattle.policy_text.proofs.WordLaws.{word_some}
use Rattle.policy_text.specs.Words.{Word, is_blank, is_word, words_of, lines_of}
use Rattle.policy_text.specs.Printing.{line_text}

-- neither a blank nor a line feed
abbrev pub plain : ℕ → Bool
plain c = not (is_blank c) && not (eqb c 10)

pub record IsPlain (word : Word) : Type 0 where
  pub some : 0 < length word
  pub each : list_all plain word ≡ true

abbrev pub ArePlain : List Word → Type 0
ArePlain words = AllByRecursion IsPlain words

apart : (p : ℕ → Bool) (c b : ℕ) → p c ≡ true → p b ≡ false → eqb c b ≡ false
apart p c b passes fails = ne_eqb c b (λ same. false≢true (sym fails ∙ ap p (sym same) ∙ passes))

from_four : (c : ℕ) → eqb c 32 ≡ false → eqb c 9 ≡ false → eqb c 13 ≡ false → eqb c 10 ≡ false → plain c ≡ true
from_four c a b d e = rw (a, b, d, e) refl

-- a test that no blank and no line feed passes
pub record Skips (p : ℕ → Bool) : Type 0 where
  pub space : p 32 ≡ false
  pub tab : p 9 ≡ false
  pub carriage : p 13 ≡ false
  pub feed : p 10 ≡ false

pub plain_each : (p : ℕ → Bool) → Skips p → (word : Word) → list_all p word ≡ true → list_all plain word ≡ true
plain_each p skips [] h = refl
plain_each p skips (c ∷ cs) h =
    let both = and_parts (p c) (list_all p cs) h in
    let first = from_four c (apart p c 32 both.0 skips.space) (apart p c 9 both.0 skips.tab) (apart p c 13 both.0 skips.carriage) (apart p c 10 both.0 skips.feed) in
    and_from (plain c) (list_all plain cs) first (plain_each p skips cs both.1)

pub plain_lacking : (word : Word) → Lacks 32 word → Lacks 9 word → Lacks 13 word → Lacks 10 word → list_all plain word ≡ true
plain_lacking [] a b d e = refl
plain_lacking (c ∷ cs) a b d e = and_from (plain c) (list_all plain cs) (from_four c a.0 b.0 d.0 e.0) (plain_lacking cs a.1 b.1 d.1 e.1)

pub decimal_plain : (n : ℕ) → n < 2 ^ 64 → IsPlain (decimal n)
decimal_plain n small =
    let numeral = (decimal_is_IsNumeral n small).0 in
    record { some = numeral.0; each = plain_each (λ c. is_digit c 10) (record { space = refl; tab = refl; carriage = refl; feed = refl }) (decimal n) (test_from_AllDigits 10 (decimal n) numeral.1) }

pub plain_append : (xs ys : Word) → list_all plain xs ≡ true → list_all plain ys ≡ true → list_all plain (xs ++ ys) ≡ true
plain_append [] ys p q = q
plain_append (x ∷ xs) ys p q =
    let both = and_parts (plain x) (list_all plain xs) p in
    and_from (plain x) (list_all plain (xs ++ ys)) both.0 (plain_append xs ys both.1 q)

no_blank : (word : Word) → list_all plain word ≡ true → All (λ c. is_blank c ≡ false) word
no_blank [] h k d low = absurd (omega arith)
no_blank (c ∷ cs) h zero d low = not-true (is_blank c) (and_parts (not (is_blank c)) (not (eqb c 10)) (and_parts (plain c) (list_all plain cs) h).0).0
no_blank (c ∷ cs) h (suc k) d low = no_blank cs (and_parts (plain c) (list_all plain cs) h).1 k d (omega arith)

no_feed : (word : Word) → list_all plain word ≡ true → Lacks 10 word
no_feed [] h = tt
no_feed (c ∷ cs) h = (not-true (eqb c 10) (and_parts (not (is_blank c)) (not (eqb c 10)) (and_parts (plain c) (list_all plain cs) h).0).1, no_feed cs (and_parts (plain c) (list_all plain cs) h).1)

keeps_words : (words : List Word) → ArePlain words → filter is_word words ≡ words
keeps_words [] h = refl
keeps_words (word ∷ words) h = word_some word words h.0.some ∙ ap (λ ws. word ∷ ws) (keeps_words words h.1)

no_blanks : (words : List Word) → ArePlain words → AllByRecursion (All (λ c. is_blank c ≡ false)) words
no_blanks [] h = tt
no_blanks (word ∷ words) h = (no_blank word h.0.each, no_blanks words h.1)

-- the words of a printed line
pub words_of-joined : (words : List Word) → ArePlain words → words_of (join_with_byte 32 words) ≡ words
unfolding words_of
words_of-joined [] h = refl
words_of-joined (word ∷ words) h = ap (filter is_word) (split-joined is_blank 32 word words refl (no_blanks (word ∷ words) h)) ∙ keeps_words (word ∷ words) h

joined_no_feed : (words : List Word) → ArePlain words → Lacks 10 (join_with_byte 32 words)
joined_no_feed [] h = tt
joined_no_feed (word ∷ []) h = no_feed word h.0.each
joined_no_feed (word ∷ next ∷ words) h = AllByRecursion-append (λ c. eqb c 10 ≡ false) word (32 ∷ join_with_byte 32 (next ∷ words)) (no_feed word h.0.each) (refl, joined_no_feed (next ∷ words) h.1)

-- the lines of a printed text
pub lines_of-printed : (lines : List (List Word)) → AllByRecursion ArePlain lines → lines_of (flat_map line_text lines) ≡ map (join_with_byte 32) lines ++ [] ∷ []
lines_of-printed [] h = refl
lines_of-printed (words ∷ lines) h =
    let joined = join_with_byte 32 words in
    ap lines_of (append_assoc joined (10 ∷ []) (flat_map line_text lines))
    ∙ slice_split_at (λ c. eqb c 10) joined 10 (flat_map line_text lines) (All-from_recursion (λ c. eqb c 10 ≡ false) joined (joined_no_feed words h.0)) refl
    ∙ ap (λ ls. joined ∷ ls) (lines_of-printed lines h.1)

joined_plain : (c : ℕ) (words : List Word) → plain c ≡ true → ArePlain words → list_all plain (join_with_byte c words) ≡ true
joined_plain c [] p h = refl
joined_plain c (word ∷ []) p h = h.0.each
joined_plain c (word ∷ next ∷ words) p h = plain_append word (c ∷ join_with_byte c (next ∷ words)) h.0.each (and_from (plain c) (list_all plain (join_with_byte c (next ∷ words))) p (joined_plain c (next ∷ words) p h.1))

joined_some : (c : ℕ) (word : Word) (words : List Word) → 0 < length word → 0 < length (join_with_byte c (word ∷ words))
joined_some c word [] h = h
joined_some c word (next ∷ words) h = omega (arith, length-append word (c ∷ join_with_byte c (next ∷ words)))

pub joined_is_plain : (c : ℕ) (words : List Word) → plain c ≡ true → 0 < length words → ArePlain words → IsPlain (join_with_byte c words)
joined_is_plain c [] p some h = absurd (omega arith)
joined_is_plain c (word ∷ words) p some h = record { some = joined_some c word words h.0.some; each = joined_plain c (word ∷ words) p h }
