-- The files of runs' journals: PATH.1, PATH.2 and so on. Their names are this project's own rule.
use Rattle.std.specs.Prelude.{◌≡◌, ℕ, ◌<◌, ◌^◌, List, ◌∷◌, ◌++◌, Vec}
use Rattle.std.specs.Fmt.{decimal}
use Rattle.std.specs.List.{AllByRecursion}
use Rattle.std.specs.declared.alloc.Global.{Global}

-- the name of the file of the run with this number: behind the path's last name a full stop, and the number
abbrev pub file_name : List ℕ → ℕ → List ℕ
file_name base number = base ++ 46 ∷ decimal number

-- the number is above that of each of these names that is the name of a run's file
abbrev pub IsAbove : List ℕ → List (Vec ℕ Global) → ℕ → Type 0
IsAbove base names next = AllByRecursion (λ name. (n : ℕ) → n < 2 ^ 32 → name.items ≡ file_name base n → n < next) names
