-- The first word of a line.
use Rattle.std.proofs.Common.{◌≡◌, ℕ, suc, ◌+◌, ◌-◌, ◌<◌, ◌≤◌, Bool, true, false, not, List, [], ◌∷◌, length, get_or, take, drop, filter, Some, None, refl, sym, ap, ◌∙◌, arith, ⊎_elim, length-take-le}
use Rattle.std.specs.List.{slice_split, position_or_len, position}
use Rattle.std.proofs.lemmas.List.{drop_all, drop_more, take_rest}
use Rattle.std.proofs.lemmas.List.Sums.{prefix_len_stops, prefix_len_passes}
use Rattle.std.proofs.lemmas.List.Splits.{slice_split_first, slice_split_none, slice_split-cons_yes}
use Rattle.std.proofs.lemmas.Option.{same_Some, none-some}
use Rattle.std.proofs.lemmas.Bool.{not-true, not-false, cases_Bool, cases_lt, lt-ltb, le-ltb}
use Rattle.policy_text.specs.Words.{Word, is_blank, is_word, words_of}

-- the octets that are no blanks
abbrev pub in_word : ℕ → Bool
in_word c = not (is_blank c)

words_of-blank : (c : ℕ) (rest : List ℕ) → is_blank c ≡ true → words_of (c ∷ rest) ≡ words_of rest
unfolding words_of
words_of-blank c rest e = ap (filter is_word) (slice_split-cons_yes is_blank c rest e)

pub words_of-nil : words_of [] ≡ []
unfolding words_of
words_of-nil = refl

-- blanks before the first word are skipped
pub words_of-skip : (line : List ℕ) → words_of line ≡ words_of (drop (position_or_len in_word line) line)
words_of-skip [] = refl
words_of-skip (c ∷ cs) =
    ⊎_elim (λ (blank : is_blank c ≡ true).
    let e : 1 + position_or_len in_word cs ≡ suc (position_or_len in_word cs) = omega arith in
    rw (blank, e) (words_of-blank c cs blank ∙ words_of-skip cs))
    (λ (other : is_blank c ≡ false). rw other refl)
    (cases_Bool (is_blank c))

pub words_of-none : (line : List ℕ) → length line ≤ position_or_len in_word line → words_of line ≡ []
words_of-none line h = words_of-skip line ∙ ap words_of (drop_all (position_or_len in_word line) line h) ∙ words_of-nil

pub word_some : (word : List ℕ) (words : List Word) → 0 < length word → filter is_word (word ∷ words) ≡ word ∷ filter is_word words
word_some [] words h = absurd (omega arith)
word_some (c ∷ cs) words h = refl

-- a word ends at the first blank
pub words_of-first : (line : List ℕ) → position_or_len is_blank line < length line → 0 < position_or_len is_blank line → words_of line ≡ take (position_or_len is_blank line) line ∷ words_of (drop (position_or_len is_blank line) line)
unfolding words_of
words_of-first line inside some =
    let k = position_or_len is_blank line in
    let stops = prefix_len_stops (λ c. not (is_blank c)) line 0 inside in
    let blank = not-false (is_blank (get_or line k 0)) stops in
    let rest = ap words_of (drop_more line k 0 inside) ∙ words_of-blank (get_or line k 0) (drop (k + 1) line) blank in
    let length_taken : length (take k line) ≡ k = length-take-le k line (omega arith) in
    let front : 0 < length (take k line) = omega (arith, length_taken) in
    ap (filter is_word) (slice_split_first is_blank line 0 inside)
    ∙ word_some (take k line) (slice_split is_blank (drop (k + 1) line)) front
    ∙ ap (λ ws. take k line ∷ ws) (sym rest)

-- or with the line
pub words_of-last : (line : List ℕ) → length line ≤ position_or_len is_blank line → 0 < length line → words_of line ≡ line ∷ []
unfolding words_of
words_of-last line whole some =
    ap (filter is_word) (slice_split_none is_blank line (λ k d low. not-true (is_blank (get_or line k d)) (prefix_len_passes (λ c. not (is_blank c)) line k d (omega arith))))
    ∙ word_some line [] some

pub position-place : {X : Type 0} (p : X → Bool) (xs : List X) (i : ℕ) → position p xs ≡ Some i → (position_or_len p xs ≡ i) × (i < length xs)
position-place p xs i e =
    ⊎_elim (λ (h : position_or_len p xs < length xs).
    let same = same_Some (position_or_len p xs) i (rw (lt-ltb (position_or_len p xs) (length xs) h) at e) in
    (same, omega arith))
    (λ (h : length xs ≤ position_or_len p xs). absurd (none-some i (rw (le-ltb (position_or_len p xs) (length xs) h) at e)))
    (cases_lt (position_or_len p xs) (length xs))

pub position-none : {X : Type 0} (p : X → Bool) (xs : List X) → position p xs ≡ None → length xs ≤ position_or_len p xs
position-none p xs e =
    ⊎_elim (λ (h : position_or_len p xs < length xs). absurd (none-some (position_or_len p xs) (sym (rw (lt-ltb (position_or_len p xs) (length xs) h) at e))))
    (λ (h : length xs ≤ position_or_len p xs). h)
    (cases_lt (position_or_len p xs) (length xs))

-- the rest of a line from its first word on
abbrev pub from_place : ℕ → List ℕ → List ℕ
from_place n text = take (length text - n) (drop n text)

pub from_word : (line : List ℕ) (start : ℕ) → position in_word line ≡ Some start → words_of line ≡ words_of (from_place start line)
from_word line start e =
    let place = position-place in_word line start e in
    words_of-skip line ∙ ap (λ i. words_of (drop i line)) place.0 ∙ ap words_of (sym (take_rest line start))

-- behind blanks a word begins
pub begins_word : (line : List ℕ) (start : ℕ) → position in_word line ≡ Some start → (0 < length (from_place start line)) × (0 < position_or_len is_blank (from_place start line))
begins_word line start e =
    let place = position-place in_word line start e in
    let inside : position_or_len in_word line < length line = omega (arith, place.0, place.1) in
    let stops = prefix_len_stops (λ c. not (in_word c)) line 0 inside in
    let word = not-true (is_blank (get_or line (position_or_len in_word line) 0)) (not-false (in_word (get_or line (position_or_len in_word line) 0)) stops) in
    let word_at : is_blank (get_or line start 0) ≡ false = rw place.0 at word in
    let cells : from_place start line ≡ get_or line start 0 ∷ drop (start + 1) line = take_rest line start ∙ drop_more line start 0 place.1 in
    rw cells (rw word_at (omega arith, omega arith))

pub first_until : (line : List ℕ) (end : ℕ) → 0 < position_or_len is_blank line → position is_blank line ≡ Some end → words_of line ≡ take end line ∷ words_of (from_place end line)
first_until line end some e =
    let place = position-place is_blank line end e in
    let first = words_of-first line (omega (arith, place.0, place.1)) some in
    rw (take_rest, ← place.0) first

pub last_whole : (line : List ℕ) → 0 < length line → position is_blank line ≡ None → words_of line ≡ line ∷ words_of (from_place (length line) line)
last_whole line some e =
    let whole = words_of-last line (position-none is_blank line e) some in
    whole ∙ ap (λ ws. line ∷ ws) (sym (ap words_of (take_rest line (length line) ∙ drop_all (length line) line (omega arith)) ∙ words_of-nil))
