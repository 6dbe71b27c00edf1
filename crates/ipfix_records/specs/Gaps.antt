-- A record as gaps of fixed length with values of variable length between them (RFC 7011, sections 3.4.3 and 7).
use Rattle.std.specs.Prelude.{ℕ, ◌+◌, Bool, true, List, [], ◌∷◌, length, drop, Option, Some, None, nat_lt, nat_le, ◌==◌, ◌&&◌, if◌then◌else◌}
use Rattle.sequences.specs.Options.{◌>>=◌}
use Rattle.ipfix_octets.specs.Variable.{varlen_at}
use Rattle.ipfix_template.specs.declared.field.FieldSpec.{FieldSpec}
use Rattle.ipfix_template.specs.Template.{is_variable}

-- the octets of the fields before the first field of variable length
abbrev pub first_gap : List FieldSpec → ℕ
first_gap [] = 0
first_gap (f ∷ fs) = if is_variable f then 0 else f.length + first_gap fs

-- for each field of variable length, the octets of the fields between it and the next one, or the end
abbrev pub gaps_behind : List FieldSpec → List ℕ
gaps_behind [] = []
gaps_behind (f ∷ fs) = if is_variable f then first_gap fs ∷ gaps_behind fs else gaps_behind fs

-- where a value of variable length starts in its shortest text
abbrev pub start_of : ℕ → ℕ
start_of len = if nat_lt len 255 then 1 else 3

-- how many octets a gap takes, and those behind it with a value of variable length before each, and whether each of these
-- values stands in its shortest text
unfoldable pub walk_at : ℕ → List ℕ → List ℕ → Option (ℕ × Bool)
walk_at first [] octets = if nat_le first (length octets) then Some (first, true) else None
walk_at first (gap ∷ gaps) octets =
    if nat_le first (length octets) then (do
      span ← varlen_at (drop first octets)
      others ← walk_at gap gaps (drop (span.0 + span.1) (drop first octets))
      Some (first + (span.0 + span.1 + others.0), (span.0 == start_of span.1) && others.1))
    else None
