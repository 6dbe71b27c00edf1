-- Where the first `::` stands between groups.
use Rattle.std.proofs.Common.{◌≡◌, ℕ, ◌<◌, false, eqb, List, [], ◌∷◌, ◌++◌, length, Option, Some, None, refl, sym, ap, ◌∙◌, arith, append_assoc, append-nil}
use Rattle.std.specs.List.{AllZip, join_with_byte}
use Rattle.std.specs.Str.Parse.{AllDigits}
use Rattle.flow_prefix.specs.declared.family.Family.TheVariants.{Ipv6}
use Rattle.flow_prefix.specs.Text.{IsPart, AreParts}
use Rattle.flow_prefix.specs.Reading.{at_double, onto_left}
use Rattle.flow_prefix.proofs.AddressTextLaws.{part_digits, digit_other}

-- octets more before the place
onto_all : List ℕ → Option (List ℕ × List ℕ) → Option (List ℕ × List ℕ)
onto_all [] o = o
onto_all (c ∷ cs) o = onto_left c (onto_all cs o)

onto_all-append : (xs ys : List ℕ) (o : Option (List ℕ × List ℕ)) → onto_all (xs ++ ys) o ≡ onto_all xs (onto_all ys o)
unfolding onto_all
onto_all-append [] ys o = refl
onto_all-append (x ∷ xs) ys o = ap (onto_left x) (onto_all-append xs ys o)

onto_all-some : (xs ys after : List ℕ) → onto_all xs (Some (ys, after)) ≡ Some (xs ++ ys, after)
unfolding onto_all
onto_all-some [] ys after = refl
onto_all-some (x ∷ xs) ys after = ap (onto_left x) (onto_all-some xs ys after)

onto_all-none : (xs : List ℕ) → onto_all xs None ≡ None
unfolding onto_all
onto_all-none [] = refl
onto_all-none (x ∷ xs) = ap (onto_left x) (onto_all-none xs)

past_digit : (c : ℕ) (rest : List ℕ) → eqb c 58 ≡ false → at_double (c ∷ rest) ≡ onto_left c (at_double rest)
past_digit c [] e = refl
past_digit c (d ∷ rest) e = rw e refl

past_colon : (d : ℕ) (rest : List ℕ) → eqb d 58 ≡ false → at_double (58 ∷ d ∷ rest) ≡ onto_left 58 (at_double (d ∷ rest))
past_colon d rest e = rw e refl

past_digits : (word rest : List ℕ) → AllDigits 16 word → at_double (word ++ rest) ≡ onto_all word (at_double rest)
unfolding onto_all
past_digits [] rest h = refl
past_digits (c ∷ cs) rest h = past_digit c (cs ++ rest) (digit_other c 58 h.0 refl) ∙ ap (onto_left c) (past_digits cs rest h.1)

past_word : (word rest : List ℕ) → (0 < length word) → AllDigits 16 word → at_double (58 ∷ (word ++ rest)) ≡ onto_left 58 (at_double (word ++ rest))
past_word [] rest some h = absurd (omega arith)
past_word (c ∷ cs) rest some h = past_colon c (cs ++ rest) (digit_other c 58 h.0 refl)

first_word : (word : List ℕ) (words : List (List ℕ)) (n : ℕ) (ns : List ℕ) (tail : List ℕ) → AllZip (IsPart Ipv6) (word ∷ words) (n ∷ ns) → at_double (58 ∷ (join_with_byte 58 (word ∷ words) ++ tail)) ≡ onto_left 58 (at_double (join_with_byte 58 (word ∷ words) ++ tail))
first_word word [] n ns tail h = let digits = part_digits Ipv6 word n h.0 in past_word word tail digits.0 digits.1
first_word word (next ∷ words) n ns tail h =
    let digits = part_digits Ipv6 word n h.0 in
    let grouped = append_assoc word (58 ∷ join_with_byte 58 (next ∷ words)) tail in
    ap (λ t. at_double (58 ∷ t)) grouped ∙ past_word word (58 ∷ (join_with_byte 58 (next ∷ words) ++ tail)) digits.0 digits.1 ∙ ap (λ t. onto_left 58 (at_double t)) (sym grouped)

past_words : (words : List (List ℕ)) (parts tail : List ℕ) → AllZip (IsPart Ipv6) words parts → at_double (join_with_byte 58 words ++ tail) ≡ onto_all (join_with_byte 58 words) (at_double tail)
unfolding onto_all
past_words [] parts tail h = refl
past_words (word ∷ words) [] tail h = absurd h
past_words (word ∷ []) (n ∷ ns) tail h = past_digits word tail (part_digits Ipv6 word n h.0).1
past_words (word ∷ next ∷ words) (n ∷ []) tail h = absurd h.1
past_words (word ∷ next ∷ words) (n ∷ m ∷ ns) tail h =
    let joined = join_with_byte 58 (next ∷ words) in
    ap at_double (append_assoc word (58 ∷ joined) tail)
    ∙ past_digits word (58 ∷ (joined ++ tail)) (part_digits Ipv6 word n h.0).1
    ∙ ap (onto_all word) (first_word next words m ns tail h.1 ∙ ap (onto_left 58) (past_words (next ∷ words) (m ∷ ns) tail h.1))
    ∙ sym (onto_all-append word (58 ∷ joined) (at_double tail))

-- groups alone have no `::`
pub at_double-groups : (text parts : List ℕ) → AreParts Ipv6 text parts → at_double text ≡ None
at_double-groups text parts h =
    ap at_double (h.joined ∙ sym (append-nil (join_with_byte 58 h.words)))
    ∙ past_words h.words parts [] h.each ∙ onto_all-none (join_with_byte 58 h.words)

-- behind groups it is the first
pub at_double-sides : (before after parts : List ℕ) → AreParts Ipv6 before parts → at_double (before ++ 58 ∷ 58 ∷ after) ≡ Some (before, after)
at_double-sides before after parts h =
    let joined = join_with_byte 58 h.words in
    ap (λ t. at_double (t ++ 58 ∷ 58 ∷ after)) h.joined
    ∙ past_words h.words parts (58 ∷ 58 ∷ after) h.each
    ∙ onto_all-some joined [] after
    ∙ ap (λ t. Some (t, after)) (append-nil joined ∙ sym h.joined)
