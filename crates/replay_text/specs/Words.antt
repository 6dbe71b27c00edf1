-- The words of a line, read from the left.
use Rattle.std.specs.Prelude.{ℕ, List, [], Option, Some, None}
use Rattle.sequences.specs.Options.{◌>>=◌}
use Rattle.numerals.specs.Numerals.{number_of}
use Rattle.flow_prefix.specs.Reading.{cut_at}
use Rattle.policy_text.specs.Words.{Word}

-- what is left of a line behind a space, or None where the line has ended
abbrev pub Left : Type 0
Left = Option (List ℕ)

-- a word ends at the next space, or with the line
abbrev pub up_to_space : List ℕ → Option (List ℕ × List ℕ) → Word × Left
up_to_space rest None = (rest, None)
up_to_space rest (Some sides) = (sides.0, Some sides.1)

-- the next word, and what is left behind it (32: a space)
unfoldable pub next_word : Left → Option (Word × Left)
next_word None = None
next_word (Some rest) = Some (up_to_space rest (cut_at 32 rest))

-- the next word as a number from 0 to most
unfoldable pub next_number : ℕ → Left → Option (ℕ × Left)
next_number most left = do
  word ← next_word left
  n ← number_of most word.0
  Some (n, word.1)

-- that the line has ended
unfoldable pub end_of_line : Left → Option (Unit {0})
end_of_line None = Some tt
end_of_line (Some rest) = None

-- the one word that is left, as a number from 0 to most
unfoldable pub last_number : ℕ → Left → Option ℕ
last_number most left = do
  n ← next_number most left
  done ← end_of_line n.1
  Some n.0

-- the one word that is left, or an empty one where the line has ended
unfoldable pub last_word : Left → Option Word
last_word None = Some []
last_word (Some rest) = do
  word ← next_word (Some rest)
  done ← end_of_line word.1
  Some word.0
