-- A reader and a writer at two moments: when a call begins, and when it has ended.
use Rattle.std.specs.Prelude.{ℕ, List, Option}

-- what a reader was to give, and what it has left; where that is known
pub record Reader : Type 0 where
  pub given : Option (List ℕ)
  pub left : Option (List ℕ)

abbrev pub reader_of : Option (List ℕ) → Option (List ℕ) → Reader
reader_of given left = record { given = given; left = left }

-- what a writer held, and what it holds; where that is known
pub record Writer : Type 0 where
  pub held : Option (List ℕ)
  pub holds : Option (List ℕ)

abbrev pub writer_of : Option (List ℕ) → Option (List ℕ) → Writer
writer_of held holds = record { held = held; holds = holds }
