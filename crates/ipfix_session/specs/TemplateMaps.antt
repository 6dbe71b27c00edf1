-- The templates of one kind: each ID has a place or none, and in a place stands a template or none.
use Rattle.std.specs.Prelude.{◌≡◌, ℕ, List, Bool, Option, is_some}
use Rattle.std.specs.Option.{option_map}
use Rattle.std.specs.Arc.{arc_value}
use Rattle.std.specs.Map.{keys_of}
use Rattle.ipfix_template.specs.declared.template.Template.{Template}
use Rattle.ipfix_session.specs.declared.template_map.TemplateMap.{TemplateMap}
use Rattle.ipfix_session.specs.Keeping.{at_key}
use Rattle.ipfix_session.specs.Places.{shown_in, shown_of}

-- the templates, without the places where none stands
abbrev pub shown_on : TemplateMap → List (ℕ × Template)
shown_on s = shown_in (option_map arc_value) s.places.entries

-- the template of an ID
abbrev pub in_map : TemplateMap → ℕ → Option Template
in_map s id = shown_of (option_map arc_value) (at_key id s.places.entries)

-- whether the ID has a place
abbrev pub has_place : TemplateMap → ℕ → Bool
has_place s id = is_some (at_key id s.places.entries)

-- the IDs that have a place
abbrev pub places_on : TemplateMap → List ℕ
places_on s = keys_of s.places.entries

-- a map with the same places, and the same templates in them
pub record IsSameMap (s t : TemplateMap) : Type 0 where
  pub shown : shown_on s ≡ shown_on t
  pub places : places_on s ≡ places_on t
