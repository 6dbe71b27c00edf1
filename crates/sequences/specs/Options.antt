-- Steps that may give nothing, one after another.
use Rattle.std.specs.Prelude.{List, ◌++◌, Option, Some, None}

infixl 10 ◌>>=◌
-- the next step with what the first gave, if it gave something
abbrev pub ◌>>=◌ : {A B : Type 0} → Option A → (A → Option B) → Option B
(Some x) >>= f = f x
None >>= f = None

-- the items before, and those that are found after them
abbrev pub with_found : {A B : Type 0} → List A → Option (List A × B) → Option (List A × B)
with_found before None = None
with_found before (Some found) = Some (before ++ found.0, found.1)
