-- What was written to a sink where a file could not be written further.
use Rattle.std.specs.Prelude.{◌≡◌, ℕ, Bool, List, Option, take}
use Rattle.std.specs.Io.KnownBytes.{Appends, Keeps}
use Rattle.octet_io.specs.Written.{WritesFront}
use Rattle.journal_files.specs.declared.fault.Fault.{Fault}
use Rattle.journal_files.specs.declared.fault.Fault.TheVariants.{BadMagic, BadVersion, Truncated, BadEntry, Read, Write, OutOfMemory}

-- the sink failed, after so many octets of those that were due; or memory ran out before any was written; no other fault comes
abbrev pub Stops : Fault → Option (List ℕ) → Option (List ℕ) → List ℕ → Bool → Bool → Type 0
Stops (Write sent) old new due was_failed has_failed = WritesFront old new due sent has_failed
Stops OutOfMemory old new due was_failed has_failed = Keeps old new × (has_failed ≡ was_failed)
Stops BadMagic old new due was_failed has_failed = ⊥
Stops BadVersion old new due was_failed has_failed = ⊥
Stops Truncated old new due was_failed has_failed = ⊥
Stops BadEntry old new due was_failed has_failed = ⊥
Stops Read old new due was_failed has_failed = ⊥

-- a front of the octets that are due was written
abbrev pub WritesSome : Option (List ℕ) → Option (List ℕ) → List ℕ → Type 0
WritesSome old new due = (n : ℕ) × Appends old new (take n due)
