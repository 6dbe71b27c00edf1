-- The lines of a policy's text, and the words of a line.
use Rattle.std.specs.Prelude.{ℕ, Bool, true, false, List, [], ◌∷◌, ◌==◌, ◌||◌, filter, slice_index, Option, Some, None}
use Rattle.std.specs.List.{slice_split}

abbrev pub Word : Type 0
Word = List ℕ

-- space, tab, carriage return
abbrev pub is_blank : ℕ → Bool
is_blank c = c == 32 || c == 9 || c == 13

abbrev pub is_word : Word → Bool
is_word [] = false
is_word (c ∷ cs) = true

-- the parts of a line between blanks
unfoldable pub words_of : List ℕ → List Word
words_of line = filter is_word (slice_split is_blank line)

-- the parts of a text between line feeds
abbrev pub lines_of : List ℕ → List (List ℕ)
lines_of text = slice_split (λ c. c == 10) text

-- a line without words, or one that begins with `#`
abbrev pub is_skipped : List Word → Bool
is_skipped [] = true
is_skipped (word ∷ words) = slice_index word 0 == 35

-- the first word, and the others
abbrev pub first_of : List Word → Option (Word × List Word)
first_of [] = None
first_of (word ∷ words) = Some (word, words)
