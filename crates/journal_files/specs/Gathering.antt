-- How many octets an entry wants, as far as those at its front tell, and how they are gathered from a source.
use Rattle.std.specs.Prelude.{◌≡◌, ◌⊎◌, ℕ, ◌<◌, Bool, true, false, List, ◌++◌, length, Option, Some, None, ◌==◌, nat_lt, if◌then◌else◌}
use Rattle.std.specs.Io.KnownBytes.{Consumes, IsAtEnd}
use Rattle.sequences.specs.Octets.{number_at}
use Rattle.journal_files.specs.declared.fault.Fault.{Fault}
use Rattle.journal_files.specs.declared.fault.Fault.TheVariants.{Truncated, BadEntry}

-- octets from the source were put behind those that were there
pub record Gathers (given left : Option (List ℕ)) (old new : List ℕ) : Type 0 where
  pub piece : List ℕ
  pub joined : new ≡ old ++ piece
  pub consumed : Consumes given left piece

-- so many octets are there; or fewer, and the source is at its end
abbrev pub IsFilled : Bool → ℕ → List ℕ → Option (List ℕ) → Type 0
IsFilled true wanted octets left = length octets ≡ wanted
IsFilled false wanted octets left = (length octets < wanted) × IsAtEnd left

-- the octets of a kind, with its numbers and its length
unfoldable pub front_octets : ℕ → Option ℕ
front_octets kind =
    if kind == 3 then Some 21
    else if kind == 5 then Some 10
    else if nat_lt 0 kind then (if nat_lt kind 9 then Some 9 else None)
    else None

-- how many octets the front announces
unfoldable pub announced : ℕ → List ℕ → ℕ
announced kind front =
    if kind == 3 then number_at 17 4 front
    else if kind == 4 then number_at 1 8 front
    else if kind == 5 then number_at 9 1 front
    else 0

-- so many octets were passed over; or fewer, and the source is at its end
pub record Skips (why : Fault) (count : ℕ) (given left : Option (List ℕ)) : Type 0 where
  pub piece : List ℕ
  pub consumed : Consumes given left piece
  pub which : ((why ≡ BadEntry) × (length piece ≡ count)) ⊎ ((why ≡ Truncated) × (length piece < count) × IsAtEnd left)
