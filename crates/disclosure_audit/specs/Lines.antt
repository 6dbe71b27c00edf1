-- The text of an audit entry, by this project's own rule: words parted by one space, and a line feed; all numbers are decimal.
use Rattle.std.specs.Prelude.{ℕ, ◌/◌, ◌==◌, if◌then◌else◌, List, [], ◌∷◌, ◌++◌, map, codes}
use Rattle.std.specs.List.{join_with_byte}
use Rattle.std.specs.Fmt.{decimal}
use Rattle.disclosure_audit.specs.declared.reason.Reason.{Reason}
use Rattle.disclosure_audit.specs.declared.reason.Reason.TheVariants.{Rule, ScopeLost, Empty, NoTime, NoKey, Late}
use Rattle.disclosure_audit.specs.declared.entry.RemovedField.{RemovedField}
use Rattle.disclosure_audit.specs.declared.entry.What.{What}
use Rattle.disclosure_audit.specs.declared.entry.What.TheVariants.{Withheld, Aggregated, Removed, Cut}
use Rattle.disclosure_audit.specs.declared.entry.AuditEntry.{AuditEntry}

abbrev pub reason_word : Reason → List ℕ
reason_word Rule = codes "rule"
reason_word ScopeLost = codes "scope-lost"
reason_word Empty = codes "empty"
reason_word NoTime = codes "no-time"
reason_word NoKey = codes "no-key"
reason_word Late = codes "late"

-- a removed field: its place, a colon (58), its rule
abbrev pub field_text : RemovedField → List ℕ
field_text field = decimal field.place ++ 58 ∷ decimal field.rule

-- removed fields, with commas (44) between
abbrev pub fields_text : List RemovedField → List ℕ
fields_text fields = join_with_byte 44 (map field_text fields)

-- the words for what was kept back
abbrev pub what_words : What → List (List ℕ)
what_words (Withheld rule reason) = codes "withheld" ∷ decimal rule ∷ reason_word reason ∷ []
what_words (Aggregated rule) = codes "aggregated" ∷ decimal rule ∷ []
what_words (Removed fields) = codes "removed" ∷ fields_text fields ∷ []
what_words Cut = codes "cut" ∷ []

-- position, index and subscription, and then what was kept back
abbrev pub entry_words : AuditEntry → List (List ℕ)
entry_words entry = decimal entry.position ∷ decimal entry.index ∷ decimal entry.sub ∷ what_words entry.what

-- one space (32) between words, and a line feed (10)
abbrev pub audit_line : AuditEntry → List ℕ
audit_line entry = join_with_byte 32 (entry_words entry) ++ 10 ∷ []

-- the digits of a number before its last one, which are those of its tens
abbrev pub tens_text : ℕ → List ℕ
tens_text tens = if tens == 0 then [] else decimal tens

-- what stands before the last digit of the index: the position, a space, and the other digits of the index
abbrev pub line_front : AuditEntry → List ℕ
line_front entry = decimal entry.position ++ 32 ∷ tens_text (entry.index / 10)

-- what stands behind the index, each word with the space before it
abbrev pub line_tail : AuditEntry → List ℕ
line_tail entry = 32 ∷ join_with_byte 32 (decimal entry.sub ∷ what_words entry.what) ++ 10 ∷ []
