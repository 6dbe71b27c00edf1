-- The templates of all domains, with the places that are made.
use Rattle.std.specs.Prelude.{◌≡◌, ℕ, List, [], ◌∷◌, Option, Some, None, map, unwrap_or, if◌then◌else◌, ◌==◌}
use Rattle.std.specs.Option.{option_map}
use Rattle.ipfix_template.specs.declared.template.Template.{Template}
use Rattle.ipfix_session.specs.Keeping.{at_key}
use Rattle.ipfix_session.specs.Places.{Places, Tabled, shown_in}

-- templates, where there are some
abbrev pub some_of : List (ℕ × Template) → Option (List (ℕ × Template))
some_of [] = None
some_of (t ∷ ts) = Some (t ∷ ts)

abbrev pub templates_in : Tabled → List (ℕ × Template)
templates_in t = t.templates

-- the templates of a domain; nothing, where there is no more than room
abbrev pub some_templates : Tabled → Option (List (ℕ × Template))
some_templates t = some_of t.templates

-- the templates of each domain that has some
abbrev pub shown_tables : List (ℕ × Tabled) → List (ℕ × List (ℕ × Template))
shown_tables tables = shown_in some_templates tables

abbrev pub place_of : ℕ × Tabled → ℕ × Places
place_of e = (e.0, e.1.places)

-- the places that are made in each domain
abbrev pub places_of : List (ℕ × Tabled) → List (ℕ × Places)
places_of tables = map place_of tables

-- the templates of a domain
abbrev pub held_templates : List (ℕ × Tabled) → ℕ → List (ℕ × Template)
held_templates tables domain = unwrap_or (option_map templates_in (at_key domain tables)) []

-- one domain has these templates then, and each other what it had
pub record Settles (old new : List (ℕ × Tabled)) (domain : ℕ) (found : ℕ → Option Template) : Type 0 where
  pub templates : (q id : ℕ) → at_key id (held_templates new q) ≡ (if q == domain then found id else at_key id (held_templates old q))
