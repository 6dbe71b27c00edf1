-- The change that stands in `Changes`.
use Rattle.std.specs.Prelude.{ℕ, List, Option}
use Rattle.ipfix_template.specs.declared.template.Template.{Template}
use Rattle.ipfix_session.specs.declared.changes.Changes.{Changes}
use Rattle.ipfix_session.specs.Keeping.{at_key}
use Rattle.ipfix_session.specs.Change.{Change, changed_template}

abbrev pub change_of : Changes → Change
change_of c = record { defined = c.defined; decided = c.decided.keys; plain_withdrawn = c.plain_withdrawn; options_withdrawn = c.options_withdrawn }

-- the template of an ID after a message, by its changes and the templates before it
abbrev pub after : Changes → List (ℕ × Template) → ℕ → Option Template
after c before id = changed_template (change_of c) id (at_key id before)
