-- What is shown of octets by stretches of them, each of those behind the one before it.
use Rattle.std.specs.Prelude.{◌≡◌, ◌+◌, ℕ, List, [], ◌∷◌, ◌++◌, length, take, drop, replicate}
use Rattle.flow_anonymize.specs.declared.stretch.Stretch.{Stretch}

abbrev pub stretch : ℕ → ℕ → ℕ → Stretch
stretch shown zeros skipped = record { shown = shown; zeros = zeros; skipped = skipped }

-- this count of octets that are 0
abbrev pub zeroed : ℕ → List ℕ
zeroed count = replicate count 0

-- of the octets that are there, those that are shown as they stand, and as many 0 as there are hidden ones
abbrev pub stretch_shown : Stretch → List ℕ → List ℕ
stretch_shown s octets = take s.shown octets ++ zeroed (length (take s.zeros (drop s.shown octets)))

abbrev pub behind_of : Stretch → List ℕ → List ℕ
behind_of s octets = drop s.skipped (drop s.zeros (drop s.shown octets))

abbrev pub shown_in : List Stretch → List ℕ → List ℕ
shown_in [] octets = []
shown_in (s ∷ stretches) octets = stretch_shown s octets ++ shown_in stretches (behind_of s octets)

-- octets in place of those of a text, from a place on
abbrev pub put_in : ℕ → List ℕ → List ℕ → List ℕ
put_in place octets text = take place text ++ (octets ++ drop (place + length octets) text)

-- one stretch shows what two neighbours show, and goes as far
pub record IsJoined (both one next : Stretch) : Type 0 where
  pub shown : (octets : List ℕ) → stretch_shown both octets ≡ stretch_shown one octets ++ stretch_shown next (behind_of one octets)
  pub behind : (octets : List ℕ) → behind_of both octets ≡ behind_of next (behind_of one octets)
