-- What contracts see of a template that was used.
use Rattle.std.specs.Prelude.{ℕ, Option}
use Rattle.std.specs.Option.{option_map}
use Rattle.std.specs.Arc.{arc_value}
use Rattle.ipfix_template.specs.declared.template.Template.{Template}
use Rattle.prepared_message.specs.declared.used.Used.{Used}

-- the ID and its template
abbrev pub used_pair : Used → ℕ × Option Template
used_pair used = (used.id, option_map arc_value used.template)
