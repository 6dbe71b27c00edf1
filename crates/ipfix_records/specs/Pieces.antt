-- Octets that are cut into texts, which stand one after another.
use Rattle.std.specs.Prelude.{◌≡◌, ℕ, ◌-◌, ◌≤◌, List, [], ◌∷◌, take, drop}

-- the texts from this place on, each up to the next end
abbrev pub pieces : List ℕ → ℕ → List ℕ → List (List ℕ)
pieces octets from [] = []
pieces octets from (end ∷ ends) = take (end - from) (drop from octets) ∷ pieces octets end ends

-- no end lies before the one before it, and the last one is the end of all
abbrev pub AreEnds : ℕ → List ℕ → ℕ → Type 0
AreEnds from [] last = from ≡ last
AreEnds from (end ∷ ends) last = (from ≤ end) × AreEnds end ends last
