-- Parts read word by word.
use Rattle.std.proofs.Common.{◌≡◌, ℕ, ◌+◌, ◌*◌, ◌^◌, ◌<◌, ◌≤◌, Bool, false, cond, leb, eqb, List, [], ◌∷◌, length, take, drop, Option, Some, None, refl, sym, ap, ◌∙◌, arith, ⊎_elim, get_or, not, length-drop}
use Rattle.std.specs.Int.Digits.{number_from_digits_after}
use Rattle.std.specs.List.{slice_split, position_or_len, All}
use Rattle.std.proofs.lemmas.Option.{some_pair_parts, none-some}
use Rattle.std.proofs.lemmas.List.Splits.{slice_split_first, slice_split_none}
use Rattle.std.proofs.lemmas.List.Sums.{prefix_len_passes}
use Rattle.std.proofs.lemmas.Bool.{not-true, cases_lt, le-leb, lt-leb, lt-ltb, le-ltb}
use Rattle.sequences.specs.Options.{◌>>=◌}
use Rattle.flow_prefix.specs.declared.family.Family.{Family}
use Rattle.flow_prefix.specs.declared.family.Family.TheVariants.{Ipv4, Ipv6}
use Rattle.flow_prefix.proofs.PowerLaws.{digit_fits}
use Rattle.flow_prefix.specs.declared.parts.Parts.{Parts}
use Rattle.flow_prefix.specs.Family.{places, base, separator}
use Rattle.flow_prefix.specs.Parts.{added_parts}
use Rattle.flow_prefix.specs.Reading.{part_of, each_part_of, parts_of, cut_at}

pub continued-none : (family : Family) (front : Parts) → added_parts family front None ≡ None
unfolding added_parts
continued-none family front = refl

pub continued-full : (family : Family) (front : Parts) (part : ℕ) (parts : List ℕ) → places family ≤ front.count → added_parts family front (Some (part ∷ parts)) ≡ None
unfolding added_parts
continued-full family front part parts full = rw (lt-leb (front.count + length (part ∷ parts)) (places family) (omega arith)) refl

-- one part more
abbrev pub next_part : Family → Parts → ℕ → Parts
next_part family front part = record { count = front.count + 1; value = front.value * base family + part }

counted_as : Family → ℕ → ℕ → Option Parts
counted_as family n value = cond (leb n (places family)) (Some (record { count = n; value = value })) None

continued-some : (family : Family) (front : Parts) (parts : List ℕ) → added_parts family front (Some parts) ≡ counted_as family (front.count + length parts) (number_from_digits_after (base family) front.value parts)
unfolding added_parts counted_as
continued-some family front parts = refl

pub continued-next : (family : Family) (front : Parts) (part : ℕ) (parts : List ℕ) → added_parts family front (Some (part ∷ parts)) ≡ added_parts family (next_part family front part) (Some parts)
continued-next family front part parts =
    let e : front.count + length (part ∷ parts) ≡ front.count + 1 + length parts = omega arith in
    continued-some family front (part ∷ parts)
    ∙ ap (λ n. counted_as family n (number_from_digits_after (base family) (front.value * base family + part) parts)) e
    ∙ sym (continued-some family (next_part family front part) parts)

pub continued-end : (family : Family) (front : Parts) → front.count ≤ places family → added_parts family front (Some []) ≡ Some front
unfolding added_parts
continued-end family front room =
    let e : front.count + 0 ≡ front.count = omega arith in
    rw (e, le-leb front.count (places family) room) refl

-- the word of one part
pub continued-word : (family : Family) (front : Parts) (word : List ℕ) (part : ℕ) → part_of family word ≡ Some part → front.count < places family → added_parts family front (each_part_of family (word ∷ [])) ≡ Some (next_part family front part)
unfolding each_part_of
continued-word family front word part e room =
    rw e (continued-next family front part [] ∙ continued-end family (next_part family front part) (omega arith))

pub continued-word_full : (family : Family) (front : Parts) (word : List ℕ) (part : ℕ) → part_of family word ≡ Some part → places family ≤ front.count → added_parts family front (each_part_of family (word ∷ [])) ≡ None
unfolding each_part_of
continued-word_full family front word part e full = rw e (continued-full family front part [] full)

pub continued-no_word : (family : Family) (front : Parts) (word : List ℕ) (words : List (List ℕ)) → part_of family word ≡ None → added_parts family front (each_part_of family (word ∷ words)) ≡ None
unfolding each_part_of
continued-no_word family front word words e = rw e (continued-none family front)

after_none : (family : Family) (o : Option Parts) → (o >>= λ p. added_parts family p None) ≡ None
after_none family None = refl
after_none family (Some p) = continued-none family p

some_parts : (family : Family) (front : Parts) (part : ℕ) (rest : Option (List ℕ)) → added_parts family front (rest >>= λ parts. Some (part ∷ parts)) ≡ (added_parts family front (Some (part ∷ [])) >>= λ p. added_parts family p rest)
some_parts family front part None = continued-none family front ∙ sym (after_none family (added_parts family front (Some (part ∷ []))))
some_parts family front part (Some parts) =
    ⊎_elim (λ (room : front.count < places family).
    continued-next family front part parts
    ∙ sym (ap (λ o. o >>= λ p. added_parts family p (Some parts)) (continued-next family front part [] ∙ continued-end family (next_part family front part) (omega arith))))
    (λ (full : places family ≤ front.count).
    continued-full family front part parts full
    ∙ sym (ap (λ o. o >>= λ p. added_parts family p (Some parts)) (continued-full family front part [] full)))
    (cases_lt front.count (places family))

by_part : (family : Family) (front : Parts) (read : Option ℕ) (rest : Option (List ℕ)) → added_parts family front (read >>= λ part. rest >>= λ parts. Some (part ∷ parts)) ≡ (added_parts family front (read >>= λ part. Some (part ∷ [])) >>= λ p. added_parts family p rest)
by_part family front None rest = continued-none family front ∙ sym (ap (λ o. o >>= λ p. added_parts family p rest) (continued-none family front))
by_part family front (Some part) rest = some_parts family front part rest

-- a word, and the words after it
pub continued-words : (family : Family) (front : Parts) (word : List ℕ) (words : List (List ℕ)) → added_parts family front (each_part_of family (word ∷ words)) ≡ (added_parts family front (each_part_of family (word ∷ [])) >>= λ p. added_parts family p (each_part_of family words))
unfolding each_part_of
continued-words family front word words = by_part family front (part_of family word) (each_part_of family words)

-- where the separator stands, the words are the one before it and those behind it
pub slice_split-cut : (byte : ℕ) (text before after : List ℕ) → cut_at byte text ≡ Some (before, after) → slice_split (λ c. eqb c byte) text ≡ before ∷ slice_split (λ c. eqb c byte) after
unfolding cut_at
slice_split-cut byte text before after e =
    ⊎_elim (λ (h : position_or_len (λ c. eqb c byte) text < length text).
    let split = slice_split_first (λ c. eqb c byte) text 0 h in
    let found = rw (lt-ltb (position_or_len (λ c. eqb c byte) text) (length text) h) at e in
    let sides = some_pair_parts (take (position_or_len (λ c. eqb c byte) text) text) before (drop (position_or_len (λ c. eqb c byte) text + 1) text) after found in
    split ∙ ap (λ word. word ∷ slice_split (λ c. eqb c byte) (drop (position_or_len (λ c. eqb c byte) text + 1) text)) sides.0
    ∙ ap (λ rest. before ∷ slice_split (λ c. eqb c byte) rest) sides.1)
    (λ (h : length text ≤ position_or_len (λ c. eqb c byte) text).
    let none = rw (le-ltb (position_or_len (λ c. eqb c byte) text) (length text) h) at e in
    absurd (none-some (before, after) none))
    (cases_lt (position_or_len (λ c. eqb c byte) text) (length text))

-- where it doesn't stand, the text is the one word
prefix_all : {X : Type 0} (p : X → Bool) (xs : List X) → length xs ≤ position_or_len p xs → All (λ x. p x ≡ false) xs
prefix_all p xs h k d low = not-true (p (get_or xs k d)) (prefix_len_passes (λ x. not (p x)) xs k d (omega arith))

pub slice_split-whole : (byte : ℕ) (text : List ℕ) → cut_at byte text ≡ None → slice_split (λ c. eqb c byte) text ≡ text ∷ []
unfolding cut_at
slice_split-whole byte text e =
    ⊎_elim (λ (h : position_or_len (λ c. eqb c byte) text < length text).
    let found = rw (lt-ltb (position_or_len (λ c. eqb c byte) text) (length text) h) at e in
    absurd (none-some (take (position_or_len (λ c. eqb c byte) text) text, drop (position_or_len (λ c. eqb c byte) text + 1) text) (sym found)))
    (λ (h : length text ≤ position_or_len (λ c. eqb c byte) text). slice_split_none (λ c. eqb c byte) text (prefix_all (λ c. eqb c byte) text h))
    (cases_lt (position_or_len (λ c. eqb c byte) text) (length text))

pub parts_of-cut : (family : Family) (text before after : List ℕ) → cut_at (separator family) text ≡ Some (before, after) → parts_of family text ≡ each_part_of family (before ∷ slice_split (λ c. eqb c (separator family)) after)
unfolding parts_of
parts_of-cut family text before after e = ap (each_part_of family) (slice_split-cut (separator family) text before after e)

pub parts_of-whole : (family : Family) (text : List ℕ) → cut_at (separator family) text ≡ None → parts_of family text ≡ each_part_of family (text ∷ [])
unfolding parts_of
parts_of-whole family text e = ap (each_part_of family) (slice_split-whole (separator family) text e)

-- a turn of the loop over the words
pub read_parts-turn : (family : Family) (front more : Parts) (text before after : List ℕ) → cut_at (separator family) text ≡ Some (before, after) → added_parts family front (each_part_of family (before ∷ [])) ≡ Some more → added_parts family front (parts_of family text) ≡ added_parts family more (parts_of family after)
unfolding parts_of
read_parts-turn family front more text before after e word =
    ap (added_parts family front) (parts_of-cut family text before after e)
    ∙ continued-words family front before (slice_split (λ c. eqb c (separator family)) after)
    ∙ ap (λ o. o >>= λ p. added_parts family p (parts_of family after)) word

-- a word that is no part ends it
pub read_parts-fault : (family : Family) (front : Parts) (text before after : List ℕ) → cut_at (separator family) text ≡ Some (before, after) → added_parts family front (each_part_of family (before ∷ [])) ≡ None → added_parts family front (parts_of family text) ≡ None
unfolding parts_of
read_parts-fault family front text before after e word =
    ap (added_parts family front) (parts_of-cut family text before after e)
    ∙ continued-words family front before (slice_split (λ c. eqb c (separator family)) after)
    ∙ ap (λ o. o >>= λ p. added_parts family p (parts_of family after)) word

-- what stands behind a separator is shorter
pub cut_at-shorter : (byte : ℕ) (text before after : List ℕ) → cut_at byte text ≡ Some (before, after) → length after < length text
unfolding cut_at
cut_at-shorter byte text before after e =
    ⊎_elim (λ (h : position_or_len (λ c. eqb c byte) text < length text).
    let found = rw (lt-ltb (position_or_len (λ c. eqb c byte) text) (length text) h) at e in
    let sides = some_pair_parts (take (position_or_len (λ c. eqb c byte) text) text) before (drop (position_or_len (λ c. eqb c byte) text + 1) text) after found in
    omega (arith, ap length sides.1, length-drop (position_or_len (λ c. eqb c byte) text + 1) text))
    (λ (h : length text ≤ position_or_len (λ c. eqb c byte) text).
    let none = rw (le-ltb (position_or_len (λ c. eqb c byte) text) (length text) h) at e in
    absurd (none-some (before, after) none))
    (cases_lt (position_or_len (λ c. eqb c byte) text) (length text))

-- one part more fits an address
pub part_fits : (family : Family) (count value part : ℕ) → value < base family ^ count → count < places family → part < base family → value * base family + part < 2 ^ 128
part_fits Ipv4 count value part below room small = let fits = digit_fits 256 count 4 value part below small room in omega (arith, fits)
part_fits Ipv6 count value part below room small = digit_fits 65536 count 8 value part below small room
