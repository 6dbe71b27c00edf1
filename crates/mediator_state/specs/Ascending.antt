-- Numbers that ascend.
use Rattle.std.specs.Prelude.{ℕ, ◌<◌, List, [], ◌∷◌}
use Rattle.std.specs.List.{AllByRecursion}

-- each number is less than those behind it
abbrev pub Ascend : List ℕ → Type 0
Ascend [] = Unit {0}
Ascend (x ∷ xs) = AllByRecursion (λ y. x < y) xs × Ascend xs
