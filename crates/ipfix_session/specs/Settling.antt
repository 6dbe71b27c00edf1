-- What the function that ends a message's reading answers.
use Rattle.std.specs.Prelude.{ℕ, List, Option}
use Rattle.ipfix_template.specs.declared.template.Template.{Template}
use Rattle.ipfix_session.specs.Contents.{Contents}
use Rattle.ipfix_session.specs.Keeping.{at_key}
use Rattle.ipfix_session.specs.Change.{changed_template}
use Rattle.ipfix_session.specs.ReadAhead.{Ahead}

-- what was read
abbrev pub contents_read : Ahead → Contents
contents_read r = record { records = r.meaning.records; skips = r.meaning.skips }

-- the template of an ID after the message, by the templates before it
abbrev pub afterwards : Ahead → List (ℕ × Template) → ℕ → Option Template
afterwards r before id = changed_template r.change id (at_key id before)
