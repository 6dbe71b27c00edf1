-- Numbers of subscriptions or sessions in a list.
use Rattle.std.specs.Prelude.{◌≢◌, ℕ, Bool, List, [], ◌∷◌, ◌==◌}
use Rattle.std.specs.List.{list_any, AllByRecursion}

-- the number is in the list
abbrev pub is_in : ℕ → List ℕ → Bool
is_in x xs = list_any (λ y. y == x) xs

-- no number stands twice in the list
abbrev pub AreDistinct : List ℕ → Type 0
AreDistinct [] = Unit {0}
AreDistinct (x ∷ xs) = AllByRecursion (λ y. y ≢ x) xs × AreDistinct xs
