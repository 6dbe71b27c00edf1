-- A line has one meaning.
use Rattle.std.specs.Prelude.{◌≡◌, ◌<◌, ◌^◌}
use Rattle.std.specs.List.{AllByRecursion}
use Rattle.disclosure_audit.specs.declared.entry.RemovedField.{RemovedField}
use Rattle.disclosure_audit.specs.declared.entry.What.{What}
use Rattle.disclosure_audit.specs.declared.entry.What.TheVariants.{Withheld, Aggregated, Removed, Cut}
use Rattle.disclosure_audit.specs.declared.entry.AuditEntry.{AuditEntry}
use Rattle.disclosure_audit.specs.Lines.{audit_line}

-- the numbers are in the ranges of the code's types
pub record IsField (field : RemovedField) : Type 0 where
  pub place : field.place < 2 ^ 16
  pub rule : field.rule < 2 ^ 32

abbrev pub IsWhat : What → Type 0
IsWhat (Withheld rule reason) = rule < 2 ^ 32
IsWhat (Aggregated rule) = rule < 2 ^ 32
IsWhat (Removed fields) = AllByRecursion IsField fields
IsWhat Cut = Unit {0}

pub record IsAuditEntry (entry : AuditEntry) : Type 0 where
  pub position : entry.position < 2 ^ 64
  pub index : entry.index < 2 ^ 32
  pub sub : entry.sub < 2 ^ 64
  pub what : IsWhat entry.what

-- no line is that of two entries
abbrev pub OneEntry : Type 0
OneEntry = (a b : AuditEntry) → IsAuditEntry a → IsAuditEntry b → audit_line a ≡ audit_line b → a ≡ b
