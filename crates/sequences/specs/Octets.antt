-- Numbers in network byte order (RFC 7011, section 6.1.1: the most significant octet first).
use Rattle.std.specs.Prelude.{◌≡◌, ℕ, ◌+◌, ◌*◌, ◌^◌, ◌<◌, List, [], ◌∷◌, length, take, drop, slice_index}
use Rattle.std.specs.Int.{bytes_high_first}

-- the base-256 value of octets, the most significant first
abbrev pub be_value : List ℕ → ℕ
be_value [] = 0
be_value (octet ∷ octets) = octet * 256 ^ length octets + be_value octets

-- a number in so many octets
abbrev pub be_octets : ℕ → ℕ → List ℕ
be_octets width n = bytes_high_first width n

-- the number in so many octets at a place
abbrev pub number_at : ℕ → ℕ → List ℕ → ℕ
number_at place width octets = be_value (take width (drop place octets))

-- the octets are this number in this width
pub record IsNumberIn (width : ℕ) (octets : List ℕ) (n : ℕ) : Type 0 where
  pub wide : length octets ≡ width
  pub value : be_value octets ≡ n

-- each is an octet
abbrev pub AreOctets : List ℕ → Type 0
AreOctets octets = (i : ℕ) → slice_index octets i < 256
