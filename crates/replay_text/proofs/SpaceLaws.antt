-- Words between spaces, read and written.
use Rattle.std.proofs.Common.{◌≡◌, ℕ, suc, ◌+◌, ◌<◌, ◌≤◌, ◌^◌, true, false, List, [], ◌∷◌, ◌++◌, length, take, drop, Option, Some, None, refl, sym, ap, subst, ◌∙◌, arith, eqb, ⊎_elim, inl, inr, append-nil, ◌⊎◌}
use Rattle.std.specs.List.{position_or_len}
use Rattle.std.specs.Char.{digit_value}
use Rattle.std.specs.Fmt.{decimal}
use Rattle.std.specs.Str.Parse.{AllDigits}
use Rattle.std.proofs.lemmas.List.{take_all}
use Rattle.std.proofs.lemmas.Option.{none-some, same_Some, some_pair_parts}
use Rattle.std.proofs.lemmas.Bool.{lt-ltb, le-ltb, cases_lt, cases_Bool, ne_eqb}
use Rattle.std.proofs.lemmas.Fmt.{decimal_is_IsNumeral}
use Rattle.sequences.proofs.ListLaws.{Lacks}
use Rattle.sequences.proofs.OptionLaws.{bind_some}
use Rattle.numerals.specs.Numerals.{number_of}
use Rattle.numerals.proofs.NumeralLaws.{number_of-found, number_of-only}
use Rattle.flow_prefix.specs.Reading.{cut_at}
use Rattle.flow_prefix.proofs.CutLaws.{cut_at-middle, cut_at-text}
use Rattle.policy_text.specs.Words.{Word}
use Rattle.replay_text.specs.Words.{Left, up_to_space, next_word, next_number, last_number, last_word, end_of_line}

-- ---- the first octet of a kind

lacks_front : (byte : ℕ) (text : List ℕ) → Lacks byte (take (position_or_len (λ c. eqb c byte) text) text)
lacks_front byte [] = tt
lacks_front byte (c ∷ cs) =
    ⊎_elim (λ (same : eqb c byte ≡ true). rw same tt)
    (λ (other : eqb c byte ≡ false).
    let e : 1 + position_or_len (λ x. eqb x byte) cs ≡ suc (position_or_len (λ x. eqb x byte) cs) = omega arith in
    rw (other, e) (other, lacks_front byte cs))
    (cases_Bool (eqb c byte))

no_place : (byte : ℕ) (text : List ℕ) → Lacks byte text → position_or_len (λ c. eqb c byte) text ≡ length text
no_place byte [] h = refl
no_place byte (c ∷ cs) h = let rest = no_place byte cs h.1 in rw h.0 (omega (arith, rest))

-- what stands before the first such octet has none
cut_at-front : (byte : ℕ) (text before after : List ℕ) → cut_at byte text ≡ Some (before, after) → Lacks byte before
unfolding cut_at
cut_at-front byte text before after e =
    ⊎_elim (λ (h : position_or_len (λ c. eqb c byte) text < length text).
    let found = rw (lt-ltb (position_or_len (λ c. eqb c byte) text) (length text) h) at e in
    let sides = some_pair_parts (take (position_or_len (λ c. eqb c byte) text) text) before (drop (position_or_len (λ c. eqb c byte) text + 1) text) after found in
    let P : List ℕ → Type 0 = λ t. Lacks byte t in
    subst P sides.0 (lacks_front byte text))
    (λ (h : length text ≤ position_or_len (λ c. eqb c byte) text).
    let none = rw (le-ltb (position_or_len (λ c. eqb c byte) text) (length text) h) at e in
    absurd (none-some (before, after) none))
    (cases_lt (position_or_len (λ c. eqb c byte) text) (length text))

cut_at-whole : (byte : ℕ) (text : List ℕ) → cut_at byte text ≡ None → Lacks byte text
unfolding cut_at
cut_at-whole byte text e =
    ⊎_elim (λ (h : position_or_len (λ c. eqb c byte) text < length text).
    let found = rw (lt-ltb (position_or_len (λ c. eqb c byte) text) (length text) h) at e in
    absurd (none-some (take (position_or_len (λ c. eqb c byte) text) text, drop (position_or_len (λ c. eqb c byte) text + 1) text) (sym found)))
    (λ (h : length text ≤ position_or_len (λ c. eqb c byte) text).
    let P : List ℕ → Type 0 = λ t. Lacks byte t in
    subst P (take_all (position_or_len (λ c. eqb c byte) text) text h) (lacks_front byte text))
    (cases_lt (position_or_len (λ c. eqb c byte) text) (length text))

cut_at-absent : (byte : ℕ) (text : List ℕ) → Lacks byte text → cut_at byte text ≡ None
unfolding cut_at
cut_at-absent byte text lacks =
    let place = no_place byte text lacks in
    rw (place, le-ltb (length text) (length text) (omega arith)) refl

-- ---- a word

-- what stands in the line behind a word
abbrev pub behind : Left → List ℕ
behind None = []
behind (Some rest) = 32 ∷ rest

word_found : (rest word : List ℕ) (left : Left) (cut : Option (List ℕ × List ℕ)) → cut_at 32 rest ≡ cut → Some (up_to_space rest cut) ≡ Some (word, left) → (rest ≡ word ++ behind left) × Lacks 32 word
word_found rest word left None cut e =
    let parts = some_pair_parts rest word None left e in
    let P : List ℕ → Type 0 = λ t. Lacks 32 t in
    let end : word ++ behind left ≡ word = ap (λ (l : Left). word ++ behind l) (sym parts.1) ∙ append-nil word in
    (parts.0 ∙ sym end, subst P parts.0 (cut_at-whole 32 rest cut))
word_found rest word left (Some sides) cut e =
    let parts = some_pair_parts sides.0 word (Some sides.1) left e in
    let P : List ℕ → Type 0 = λ t. Lacks 32 t in
    (cut_at-text 32 rest sides.0 sides.1 cut ∙ ap (λ (w : List ℕ). w ++ 32 ∷ sides.1) parts.0 ∙ ap (λ (l : Left). word ++ behind l) parts.1, subst P parts.0 (cut_at-front 32 rest sides.0 sides.1 cut))

pub next_word-found : (rest word : List ℕ) (left : Left) → next_word (Some rest) ≡ Some (word, left) → (rest ≡ word ++ behind left) × Lacks 32 word
unfolding next_word
next_word-found rest word left e = word_found rest word left (cut_at 32 rest) refl e

next_word-none : (word : List ℕ) (left : Left) → next_word None ≡ Some (word, left) → ⊥
unfolding next_word
next_word-none word left e = none-some (word, left) e

pub next_word-only : (word : List ℕ) (left : Left) → Lacks 32 word → next_word (Some (word ++ behind left)) ≡ Some (word, left)
unfolding next_word
next_word-only word None lacks =
    let whole = append-nil word in
    let none = cut_at-absent 32 word lacks in
    rw (whole, none) refl
next_word-only word (Some rest) lacks =
    let sides = cut_at-middle 32 word rest lacks in
    rw sides refl

-- ---- a number

lacks_space : (ds : List ℕ) → AllDigits 10 ds → Lacks 32 ds
lacks_space [] h = tt
lacks_space (c ∷ cs) h = (ne_eqb c 32 (λ e. let wide : digit_value c ≡ 36 = ap digit_value e in omega (arith, wide, h.0)), lacks_space cs h.1)

decimal_lacks : (n : ℕ) → n < 2 ^ 64 → Lacks 32 (decimal n)
decimal_lacks n small = lacks_space (decimal n) (decimal_is_IsNumeral n small).0.1

-- the number stands next
pub record IsNext (most : ℕ) (left : Left) (n : ℕ) (after : Left) : Type 0 where
  pub bound : n ≤ most
  pub text : left ≡ Some (decimal n ++ behind after)

number_found : (most : ℕ) (rest : List ℕ) (n : ℕ) (after : Left) (word : Word × Left) (m : ℕ) → most < 2 ^ 64 → next_word (Some rest) ≡ Some word → number_of most word.0 ≡ Some m → ◌≡◌ {A = Option (ℕ × Left)} (Some (m, word.1)) (Some (n, after)) → IsNext most (Some rest) n after
number_found most rest n after word m small read value e =
    let parts = some_pair_parts m n word.1 after e in
    let found = next_word-found rest word.0 word.1 read in
    let number = number_of-found most word.0 m small value in
    let bound = number.bound in
    record {
      bound = omega (arith, bound, parts.0);
      text = ap Some (found.0 ∙ ap (λ (w : List ℕ). w ++ behind word.1) (number.text ∙ ap decimal parts.0) ∙ ap (λ (l : Left). decimal n ++ behind l) parts.1);
    }

pub next_number-found : (most : ℕ) (left : Left) (n : ℕ) (after : Left) → most < 2 ^ 64 → next_number most left ≡ Some (n, after) → IsNext most left n after
unfolding next_number
next_number-found most None n after small e =
    let word = bind_some (next_word None) _ (n, after) e in
    absurd (next_word-none word.0.0 word.0.1 word.1)
next_number-found most (Some rest) n after small e =
    let word = bind_some (next_word (Some rest)) _ (n, after) e in
    let value = bind_some (number_of most word.0.0) _ (n, after) word.2 in
    number_found most rest n after word.0 value.0 small word.1 value.1 value.2

pub next_number-only : (most n : ℕ) (after : Left) → most < 2 ^ 64 → n ≤ most → next_number most (Some (decimal n ++ behind after)) ≡ Some (n, after)
unfolding next_number
next_number-only most n after small bound =
    let word = next_word-only (decimal n) after (decimal_lacks n (omega arith)) in
    let value = number_of-only most (decimal n) n small (record { bound = bound; text = refl }) in
    rw (word, value) refl

-- ---- the end of a line

pub ended-found : (left : Left) (done : Unit {0}) → end_of_line left ≡ Some done → left ≡ None
unfolding end_of_line
ended-found None done e = refl
ended-found (Some rest) done e = absurd (none-some done e)

pub ended-only : end_of_line None ≡ Some tt
unfolding end_of_line
ended-only = refl

-- the number is all that is left
pub record IsLast (most : ℕ) (left : Left) (n : ℕ) : Type 0 where
  pub bound : n ≤ most
  pub text : left ≡ Some (decimal n)

last_found : (most : ℕ) (left : Left) (n : ℕ) (number : ℕ × Left) (done : Unit {0}) → most < 2 ^ 64 → next_number most left ≡ Some number → end_of_line number.1 ≡ Some done → number.0 ≡ n → IsLast most left n
last_found most left n number done small read end same =
    let found = next_number-found most left number.0 number.1 small read in
    let bound = found.bound in
    record {
      bound = omega (arith, bound, same);
      text = found.text ∙ ap Some (ap (λ (l : Left). decimal number.0 ++ behind l) (ended-found number.1 done end) ∙ append-nil (decimal number.0) ∙ ap decimal same);
    }

pub last_number-found : (most : ℕ) (left : Left) (n : ℕ) → most < 2 ^ 64 → last_number most left ≡ Some n → IsLast most left n
unfolding last_number
last_number-found most left n small e =
    let number = bind_some (next_number most left) _ n e in
    let done = bind_some (end_of_line number.0.1) _ n number.2 in
    last_found most left n number.0 done.0 small number.1 done.1 (same_Some number.0.0 n done.2)

pub last_number-only : (most n : ℕ) → most < 2 ^ 64 → n ≤ most → last_number most (Some (decimal n)) ≡ Some n
unfolding last_number
last_number-only most n small bound =
    let whole = ap (λ (t : List ℕ). next_number most (Some t)) (sym (append-nil (decimal n))) ∙ next_number-only most n None small bound in
    let end = ended-only in
    rw (whole, end) refl

-- the word is all that is left, or nothing is
abbrev pub IsLastWord : Left → List ℕ → Type 0
IsLastWord left word = ((left ≡ None) × (word ≡ [])) ⊎ (Lacks 32 word × (left ≡ Some word))

last_word_found : (rest word : List ℕ) (read : Word × Left) (done : Unit {0}) → next_word (Some rest) ≡ Some read → end_of_line read.1 ≡ Some done → read.0 ≡ word → IsLastWord (Some rest) word
last_word_found rest word read done is end same =
    let found = next_word-found rest read.0 read.1 is in
    let P : List ℕ → Type 0 = λ t. Lacks 32 t in
    inr (subst P same found.1, ap Some (found.0 ∙ ap (λ (l : Left). read.0 ++ behind l) (ended-found read.1 done end) ∙ append-nil read.0 ∙ same))

pub last_word-found : (left : Left) (word : List ℕ) → last_word left ≡ Some word → IsLastWord left word
unfolding last_word
last_word-found None word e = inl (refl, sym (same_Some [] word e))
last_word-found (Some rest) word e =
    let read = bind_some (next_word (Some rest)) _ word e in
    let done = bind_some (end_of_line read.0.1) _ word read.2 in
    last_word_found rest word read.0 done.0 read.1 done.1 (same_Some read.0.0 word done.2)

pub last_word-only : (word : List ℕ) → Lacks 32 word → last_word (Some word) ≡ Some word
unfolding last_word
last_word-only word lacks =
    let whole = ap (λ (t : List ℕ). next_word (Some t)) (sym (append-nil word)) ∙ next_word-only word None lacks in
    let end = ended-only in
    rw (whole, end) refl

pub last_word-none : last_word None ≡ Some []
unfolding last_word
last_word-none = refl
