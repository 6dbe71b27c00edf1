-- What the functions that walk over a message's items answer.
use Rattle.std.specs.Prelude.{◌≡◌, ◌≤◌, ℕ, Result, Ok, Err}
use Rattle.ipfix_session.specs.declared.read.Skips.{Skips}
use Rattle.ipfix_session.specs.declared.fault.Fault.{Fault}
use Rattle.ipfix_session.specs.declared.walk.Walk.{Walk}
use Rattle.ipfix_session.specs.Contents.{Contents, both}
use Rattle.ipfix_session.specs.Answers.{FailsMeaning}

-- what was read so far
abbrev pub contents_in : Walk → Contents
contents_in w = record { records = w.records; skips = w.skips }

-- what is read is added to what was read before
abbrev pub AddsContents : Contents → Contents → Result Contents Fault → Result (Unit {0}) Fault → Type 0
AddsContents old new read (Ok _) = (first : Contents) × (read ≡ Ok first) × (new ≡ both old first)
AddsContents old new read (Err e) = FailsMeaning e read

-- after so many items no count is above their number
pub record SkipsAtMost (s : Skips) (n : ℕ) : Type 0 where
  pub unknown : s.unknown ≤ n
  pub reserved : s.reserved ≤ n
  pub refused : s.refused ≤ n
