-- The Set IDs of a message (RFC 7011, sections 3.3.2 and 3.4).
use Rattle.std.specs.Prelude.{◌≡◌, ℕ, Bool, true, false, List, [], ◌∷◌, length, drop, Option, Some, None, Result, Ok, Err, nat_lt, ◌==◌, ◌||◌, if◌then◌else◌}
use Rattle.std.specs.Borrow.{Bor}
use Rattle.ipfix_octets.specs.MessageFormat.{header_octets, set_header_octets, template_set_id, options_template_set_id}
use Rattle.ipfix_octets.specs.Octets.{number_at}
use Rattle.ipfix_octets.specs.Sequence.{Front, End, Fault, Next, read_all}

-- what stands at the front of the octets left of a message: its end, octets that are no set, or a set's ID and the octets after
-- the set; a set header has the ID and the length of the whole set
unfoldable pub id_front : List ℕ → Front ℕ (Unit {0})
id_front octets =
    if length octets == 0 then End
    else if nat_lt (length octets) set_header_octets then Fault tt
    else if nat_lt (number_at 2 2 octets) set_header_octets || nat_lt (length octets) (number_at 2 2 octets) then Fault tt
    else Next (number_at 0 2 octets ∷ []) (drop (number_at 2 2 octets) octets)

-- the IDs of a message's sets, in their order; a fault where the octets after the header are not all sets
unfoldable pub set_ids : List ℕ → Result (List ℕ) (Unit {0})
set_ids message = read_all id_front (drop header_octets message)

-- the ID of a Template Set, or of an Options Template Set
abbrev pub is_of_templates : ℕ → Bool
is_of_templates id = (id == template_set_id) || (id == options_template_set_id)

abbrev pub has_one : List ℕ → Bool
has_one [] = false
has_one (id ∷ ids) = is_of_templates id || has_one ids

abbrev pub has_one_read : Result (List ℕ) (Unit {0}) → Bool
has_one_read (Ok ids) = has_one ids
has_one_read (Err e) = false

-- whether one of the message's sets is a Template Set or an Options Template Set
abbrev pub has_template_set : List ℕ → Bool
has_template_set message = has_one_read (set_ids message)

-- no set is found where none stands, and else its ID and the octets after it
abbrev pub ShowsSet : Option (ℕ × Bor (List ℕ)) → Front ℕ (Unit {0}) → Type 0
ShowsSet None End = Unit {0}
ShowsSet None (Fault e) = Unit {0}
ShowsSet None (Next ids rest) = ⊥
ShowsSet (Some found) front = front ≡ Next (found.0 ∷ []) found.1.now
