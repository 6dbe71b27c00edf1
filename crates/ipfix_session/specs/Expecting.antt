-- The numbers that are expected of the domains, with the places that are made.
use Rattle.std.specs.Prelude.{ℕ, List, Bool, Option, is_some}
use Rattle.std.specs.Map.{keys_of}
use Rattle.ipfix_session.specs.declared.numbers.Numbers.{Numbers}
use Rattle.ipfix_session.specs.Keeping.{at_key}
use Rattle.ipfix_session.specs.Places.{shown_in, shown_of}

-- what stands in a place
abbrev pub itself : Option ℕ → Option ℕ
itself number = number

-- the number of each domain that has one
abbrev pub shown_numbers : Numbers → List (ℕ × ℕ)
shown_numbers n = shown_in itself n.by_domain.entries

-- the number of a domain
abbrev pub domain_number : Numbers → ℕ → Option ℕ
domain_number n domain = shown_of itself (at_key domain n.by_domain.entries)

-- whether a domain has a place for its number
abbrev pub has_number : Numbers → ℕ → Bool
has_number n domain = is_some (at_key domain n.by_domain.entries)

-- the domains that have a place for their number
abbrev pub number_places : Numbers → List ℕ
number_places n = keys_of n.by_domain.entries
