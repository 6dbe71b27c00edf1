-- The pieces of an answer, and the room that they take.
use Rattle.std.specs.Prelude.{ℕ, List, [], ◌∷◌, ◌++◌}
use Rattle.std.specs.List.{flat_map}
use Rattle.disclosure_audit.specs.declared.entry.RemovedField.{RemovedField}
use Rattle.disclosure_audit.specs.declared.entry.AuditEntry.{AuditEntry}
use Rattle.disclosure_audit.specs.Lines.{audit_line, fields_text}

-- how many octets a buffer has room for, one piece has at most, and the digits of a number are at most
abbrev pub most_octets : ℕ
most_octets = 16384

abbrev pub longest_piece : ℕ
longest_piece = 128

abbrev pub longest_number : ℕ
longest_number = 20

-- the rest of a line that has these fields still to list, with its line feed (10); or nothing, where it was put whole
abbrev pub rest_of_line : List RemovedField → List ℕ
rest_of_line [] = []
rest_of_line (field ∷ fields) = fields_text (field ∷ fields) ++ 10 ∷ []

-- that, and the lines of the entries behind it
abbrev pub rest_of_lines : List RemovedField → List AuditEntry → List ℕ
rest_of_lines fields entries = rest_of_line fields ++ flat_map audit_line entries
