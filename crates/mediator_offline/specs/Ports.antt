-- What is seen of the ports of a run: its reader, its writer, and the writer of its audit.
use Rattle.std.specs.Prelude.{ℕ, Bool, false, List, Option}

-- what writer and audit hold, and whether each has failed
pub record Outputs : Type 0 where
  pub written : Option (List ℕ)
  pub audited : Option (List ℕ)
  pub writer_failed : Bool
  pub audit_failed : Bool

-- what the reader has left, whether it has failed, and the outputs
pub record Ports : Type 0 where
  pub left : Option (List ℕ)
  pub reader_failed : Bool
  pub outputs : Outputs

-- outputs that hold these, and have failed or not
abbrev pub holding : Option (List ℕ) → Option (List ℕ) → Bool → Bool → Outputs
holding written audited writer_failed audit_failed = record { written = written; audited = audited; writer_failed = writer_failed; audit_failed = audit_failed }

-- ports of which the reader has this left, and has failed or not
abbrev pub with_left : Option (List ℕ) → Bool → Outputs → Ports
with_left left reader_failed outputs = record { left = left; reader_failed = reader_failed; outputs = outputs }

-- ports of which none has failed
abbrev pub sound_ports : Option (List ℕ) → Option (List ℕ) → Option (List ℕ) → Ports
sound_ports left written audited = with_left left false (holding written audited false false)
