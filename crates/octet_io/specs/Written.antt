-- What was written of octets that are due, where the sink failed.
use Rattle.std.specs.Prelude.{◌≡◌, ℕ, ◌<◌, Bool, true, List, Option, length, take}
use Rattle.std.specs.Io.KnownBytes.{Appends}

-- the first n of the octets that are due were written, and not all of them; then the sink failed
pub record WritesFront (old new : Option (List ℕ)) (due : List ℕ) (n : ℕ) (has_failed : Bool) : Type 0 where
  pub short : n < length due
  pub written : Appends old new (take n due)
  pub failed : has_failed ≡ true
