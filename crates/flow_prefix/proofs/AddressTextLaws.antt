-- An address that is read is written so, and one that is written so is read.
use Rattle.std.proofs.Common.{◌≡◌, ℕ, ◌<◌, ◌≤◌, false, eqb, List, [], ◌∷◌, ◌++◌, length, Some, refl, sym, ap, ◌∙◌, subst, arith, ⊎_elim, length-append}
use Rattle.std.specs.List.{AllZip, All, join_with_byte, slice_split, AllByRecursion}
use Rattle.std.specs.Fmt.{decimal}
use Rattle.std.specs.Char.{digit_value}
use Rattle.std.specs.Str.Parse.{AllDigits}
use Rattle.std.proofs.lemmas.Fmt.{decimal_is_IsNumeral}
use Rattle.std.proofs.lemmas.Int.Digits.{digits_value-lt}
use Rattle.std.proofs.lemmas.List.Splits.{join_with_byte-slice_split}
use Rattle.std.proofs.lemmas.Option.{none-some, same_Some}
use Rattle.std.proofs.lemmas.Bool.{cases_lt, lt-ltb, le-ltb, eq-eqb, ne_eqb}
use Rattle.sequences.specs.Options.{◌>>=◌}
use Rattle.sequences.proofs.OptionLaws.{bind_some}
use Rattle.sequences.proofs.ListLaws.{Lacks}
use Rattle.std.proofs.lemmas.List.Elements.{All-from_recursion}
use Rattle.sequences.proofs.JoinLaws.{split-joined}
use Rattle.flow_prefix.specs.declared.family.Family.{Family}
use Rattle.flow_prefix.specs.declared.family.Family.TheVariants.{Ipv4, Ipv6}
use Rattle.flow_prefix.specs.Family.{separator}
use Rattle.flow_prefix.specs.Text.{IsPart, AreParts}
use Rattle.flow_prefix.specs.Reading.{part_of, each_part_of, parts_of, groups_of}
use Rattle.numerals.proofs.NumeralLaws.{number_of-found, number_of-only, digits_number-found, digits_number-only}
use Rattle.flow_prefix.proofs.PowerLaws.{power_up}

pub part_of-found : (family : Family) (word : List ℕ) (n : ℕ) → part_of family word ≡ Some n → IsPart family word n
unfolding part_of
part_of-found Ipv4 word n e =
    let number = number_of-found 255 word n (omega arith) e in
    let bound = number.bound in
    (omega arith, number.text)
part_of-found Ipv6 word n e =
    ⊎_elim (λ (long : 4 < length word). absurd (none-some n (rw (lt-ltb 4 (length word) long) at e)))
    (λ (short : length word ≤ 4).
    let read = digits_number-found 16 65535 word n (rw (le-ltb 4 (length word) short) at e) in
    (read.numeral, short, read.value))
    (cases_lt 4 (length word))

pub part_of-only : (family : Family) (word : List ℕ) (n : ℕ) → IsPart family word n → part_of family word ≡ Some n
unfolding part_of
part_of-only Ipv4 word n h = let small = h.0 in number_of-only 255 word n (omega arith) (record { bound = omega arith; text = h.1 })
part_of-only Ipv6 word n h =
    let short = h.1 in
    let value = h.2 in
    let below = digits_value-lt 16 word h.0.1 in
    let up = power_up 16 (omega arith) (length word) 4 short in
    rw (le-ltb 4 (length word) short) (digits_number-only 16 65535 word n (record { numeral = h.0; bound = omega (arith, value, below, up); value = value }))

pub each_part_of-found : (family : Family) (words : List (List ℕ)) (parts : List ℕ) → each_part_of family words ≡ Some parts → AllZip (IsPart family) words parts
unfolding each_part_of
each_part_of-found family [] [] e = tt
each_part_of-found family [] (n ∷ ns) e = cc
each_part_of-found family (word ∷ words) parts e =
    let first = bind_some (part_of family word) (λ n. each_part_of family words >>= λ ns. Some (n ∷ ns)) parts e in
    let rest = bind_some (each_part_of family words) (λ ns. Some (first.0 ∷ ns)) parts first.2 in
    let all : first.0 ∷ rest.0 ≡ parts = same_Some (first.0 ∷ rest.0) parts rest.2 in
    let P : List ℕ → Type 0 = λ ps. AllZip (IsPart family) (word ∷ words) ps in
    subst P all (part_of-found family word first.0 first.1, each_part_of-found family words rest.0 rest.1)

pub each_part_of-only : (family : Family) (words : List (List ℕ)) (parts : List ℕ) → AllZip (IsPart family) words parts → each_part_of family words ≡ Some parts
unfolding each_part_of
each_part_of-only family [] [] h = refl
each_part_of-only family [] (n ∷ ns) h = absurd h
each_part_of-only family (word ∷ words) [] h = absurd h
each_part_of-only family (word ∷ words) (n ∷ ns) h = rw (part_of-only family word n h.0, each_part_of-only family words ns h.1) refl

-- a digit in hexadecimal, and so neither a dot, a slash nor a colon
abbrev pub IsDigit : ℕ → Type 0
IsDigit c = digit_value c < 16

pub AllDigits-wider : (ds : List ℕ) → AllDigits 10 ds → AllDigits 16 ds
AllDigits-wider [] h = tt
AllDigits-wider (c ∷ cs) h = let low = h.0 in (omega arith, AllDigits-wider cs h.1)

pub part_digits : (family : Family) (word : List ℕ) (n : ℕ) → IsPart family word n → (0 < length word) × AllDigits 16 word
part_digits Ipv4 word n h =
    let small = h.0 in
    let numeral = decimal_is_IsNumeral n (omega arith) in
    rw h.1 (numeral.0.0, AllDigits-wider (decimal n) numeral.0.1)
part_digits Ipv6 word n h = h.0

pub digit_other : (c byte : ℕ) → digit_value c < 16 → digit_value byte ≡ 36 → eqb c byte ≡ false
digit_other c byte small other = ne_eqb c byte (λ same. omega (arith, small, other, ap digit_value same))

separator_value : (family : Family) → digit_value (separator family) ≡ 36
separator_value Ipv4 = refl
separator_value Ipv6 = refl

pub Lacks-digits : (byte : ℕ) → digit_value byte ≡ 36 → (ds : List ℕ) → AllDigits 16 ds → Lacks byte ds
Lacks-digits byte other [] h = tt
Lacks-digits byte other (c ∷ cs) h = (digit_other c byte h.0 other, Lacks-digits byte other cs h.1)

pub Lacks-middle : (byte : ℕ) (xs ys : List ℕ) → Lacks byte (xs ++ byte ∷ ys) → ⊥
Lacks-middle byte [] ys h = let e = h.0 in let same = eq-eqb byte byte refl in cc
Lacks-middle byte (x ∷ xs) ys h = Lacks-middle byte xs ys h.1

no_separator : (family : Family) (words : List (List ℕ)) (parts : List ℕ) → AllZip (IsPart family) words parts → AllByRecursion (All (λ c. eqb c (separator family) ≡ false)) words
no_separator family [] parts h = tt
no_separator family (word ∷ words) [] h = absurd h
no_separator family (word ∷ words) (n ∷ ns) h =
    (All-from_recursion (λ c. eqb c (separator family) ≡ false) word (Lacks-digits (separator family) (separator_value family) word (part_digits family word n h.0).1), no_separator family words ns h.1)

-- the words come back from the joined text
pub split_joined : (family : Family) (word : List ℕ) (words : List (List ℕ)) (parts : List ℕ) → AllZip (IsPart family) (word ∷ words) parts → slice_split (λ c. eqb c (separator family)) (join_with_byte (separator family) (word ∷ words)) ≡ word ∷ words
split_joined family word words parts h =
    split-joined (λ c. eqb c (separator family)) (separator family) word words (eq-eqb (separator family) (separator family) refl) (no_separator family (word ∷ words) parts h)

pub parts_of-found : (family : Family) (text parts : List ℕ) → parts_of family text ≡ Some parts → AreParts family text parts
unfolding parts_of
parts_of-found family text parts e = record {
  words = slice_split (λ c. eqb c (separator family)) text;
  each = each_part_of-found family (slice_split (λ c. eqb c (separator family)) text) parts e;
  joined = sym (join_with_byte-slice_split (separator family) text);
}

some_word : (family : Family) (text : List ℕ) (words : List (List ℕ)) (n : ℕ) (ns : List ℕ) → AllZip (IsPart family) words (n ∷ ns) → text ≡ join_with_byte (separator family) words → parts_of family text ≡ Some (n ∷ ns)
unfolding parts_of
some_word family text [] n ns each joined = absurd each
some_word family text (word ∷ words) n ns each joined =
    ap (λ t. each_part_of family (slice_split (λ c. eqb c (separator family)) t)) joined
    ∙ ap (each_part_of family) (split_joined family word words (n ∷ ns) each)
    ∙ each_part_of-only family (word ∷ words) (n ∷ ns) each

pub parts_of-only : (family : Family) (text : List ℕ) (n : ℕ) (ns : List ℕ) → AreParts family text (n ∷ ns) → parts_of family text ≡ Some (n ∷ ns)
parts_of-only family text n ns h = some_word family text h.words n ns h.each h.joined

pub groups_of-found : (text parts : List ℕ) → groups_of text ≡ Some parts → AreParts Ipv6 text parts
unfolding groups_of
groups_of-found [] parts e = record { words = []; each = let same = same_Some [] parts e in let P : List ℕ → Type 0 = λ ps. AllZip (IsPart Ipv6) [] ps in subst P same tt; joined = refl }
groups_of-found (c ∷ cs) parts e = parts_of-found Ipv6 (c ∷ cs) parts e

no_words : (text : List ℕ) (words : List (List ℕ)) → AllZip (IsPart Ipv6) words [] → text ≡ join_with_byte 58 words → groups_of text ≡ Some []
unfolding groups_of
no_words text [] each joined = ap groups_of joined
no_words text (word ∷ words) each joined = absurd each

empty_joined : (word : List ℕ) (words : List (List ℕ)) (n : ℕ) (ns : List ℕ) → AllZip (IsPart Ipv6) (word ∷ words) (n ∷ ns) → 0 < length (join_with_byte 58 (word ∷ words))
empty_joined word [] n ns h = (part_digits Ipv6 word n h.0).0
empty_joined word (next ∷ words) n ns h =
    let some = (part_digits Ipv6 word n h.0).0 in
    omega (arith, length-append word (58 ∷ join_with_byte 58 (next ∷ words)))

groups_of-some : (text : List ℕ) → 0 < length text → groups_of text ≡ parts_of Ipv6 text
unfolding groups_of
groups_of-some [] h = absurd (omega arith)
groups_of-some (c ∷ cs) h = refl

some_groups : (text : List ℕ) (words : List (List ℕ)) (n : ℕ) (ns : List ℕ) → AllZip (IsPart Ipv6) words (n ∷ ns) → text ≡ join_with_byte 58 words → groups_of text ≡ Some (n ∷ ns)
some_groups text [] n ns each joined = absurd each
some_groups text (word ∷ words) n ns each joined =
    let some = empty_joined word words n ns each in
    groups_of-some text (omega (arith, ap length joined, some)) ∙ some_word Ipv6 text (word ∷ words) n ns each joined

by_parts : (text parts : List ℕ) (words : List (List ℕ)) → AllZip (IsPart Ipv6) words parts → text ≡ join_with_byte 58 words → groups_of text ≡ Some parts
by_parts text [] words each joined = no_words text words each joined
by_parts text (n ∷ ns) words each joined = some_groups text words n ns each joined

pub groups_of-only : (text parts : List ℕ) → AreParts Ipv6 text parts → groups_of text ≡ Some parts
groups_of-only text parts h = by_parts text parts h.words h.each h.joined
