-- Values of variable length: a length and the value (RFC 7011, section 7).
use Rattle.std.specs.Prelude.{◌≡◌, ◌⊎◌, ℕ, ◌+◌, ◌<◌, List, [], ◌∷◌, ◌++◌, length, take, Option, Some, None, nat_lt, nat_le, ◌==◌, if◌then◌else◌}
use Rattle.sequences.specs.Octets.{be_value, be_octets, IsNumberIn}

-- the longest value that a length of two octets can announce
abbrev pub longest_value : ℕ
longest_value = 65535

-- one octet of length, and the value
abbrev pub IsShortText : List ℕ → List ℕ → Type 0
IsShortText text value = (length value < 255) × (text ≡ length value ∷ value)

-- 255, two octets of length, and the value
abbrev pub IsLongText : List ℕ → List ℕ → Type 0
IsLongText text value = (a : List ℕ) × IsNumberIn 2 a (length value) × (text ≡ 255 ∷ (a ++ value))

-- the text is one of the two texts of the value
abbrev pub IsVarText : List ℕ → List ℕ → Type 0
IsVarText text value = IsShortText text value ⊎ IsLongText text value

-- the shorter of the texts of a value
abbrev pub shortest_text : List ℕ → List ℕ
shortest_text value = if nat_lt (length value) 255 then length value ∷ value else 255 ∷ (be_octets 2 (length value) ++ value)

-- where a value stands, if there are so many octets
abbrev pub value_within : ℕ → ℕ → List ℕ → Option (ℕ × ℕ)
value_within start len octets = if nat_le (start + len) (length octets) then Some (start, len) else None

-- where the value at the front of octets starts, and its length
unfoldable pub varlen_at : List ℕ → Option (ℕ × ℕ)
varlen_at [] = None
varlen_at (first ∷ rest) =
    if first == 255 then
    (if nat_lt (length rest) 2 then None else value_within 3 (be_value (take 2 rest)) (first ∷ rest))
    else value_within 1 first (first ∷ rest)
