-- The text of the last edit.
use Rattle.std.specs.Prelude.{ℕ, List, Option, Some, None}
use Rattle.sequences.specs.Before.{last_of}
use Rattle.event_journal.specs.declared.entry.Entry.{Entry}
use Rattle.event_journal.specs.declared.entry.Entry.TheVariants.{Edit}

-- the text of an edit
abbrev pub edit_text : Entry → Option (List ℕ)
edit_text (Edit text) = Some text
edit_text _ = None

-- from an edit on, its text is that of the last one
abbrev pub edit_at : Entry → Option (Option (List ℕ))
edit_at (Edit text) = Some (Some text)
edit_at _ = None

-- the text of a history's last edit, if there was one
abbrev pub last_edit : List Entry → Option (List ℕ)
last_edit h = last_of edit_at None h
