-- The first bits of a value (RFC 6235, section 4.1.1: truncation).
use Rattle.std.specs.Prelude.{◌≡◌, ℕ, ◌*◌, ◌/◌, ◌-◌, ◌^◌, List, length}
use Rattle.sequences.specs.Octets.{be_value, be_octets}

-- a value of w bits with all but its n most significant bits 0
abbrev pub truncated : ℕ → ℕ → ℕ → ℕ
truncated w n v = v / 2 ^ (w - n) * 2 ^ (w - n)

-- as many octets, whose number is the truncated one
abbrev pub kept_octets : ℕ → List ℕ → List ℕ
kept_octets n octets = be_octets (length octets) (truncated (8 * length octets) n (be_value octets))

-- the same by its two marks: the width stays, and the number is the truncated one
pub record KeepsBits (n : ℕ) (octets kept : List ℕ) : Type 0 where
  pub wide : length kept ≡ length octets
  pub value : be_value kept ≡ truncated (8 * length octets) n (be_value octets)
