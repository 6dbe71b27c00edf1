-- What is said of a fault: its name.
use Rattle.std.specs.Prelude.{ℕ, List, codes}
use Rattle.journal_files.specs.declared.fault.Fault.{Fault}
use Rattle.journal_files.specs.declared.fault.Fault.TheVariants.{BadMagic, BadVersion, Truncated, BadEntry, Read, Write, OutOfMemory}

abbrev pub journal_fault_text : Fault → List ℕ
journal_fault_text BadMagic = codes "BadMagic"
journal_fault_text BadVersion = codes "BadVersion"
journal_fault_text Truncated = codes "Truncated"
journal_fault_text BadEntry = codes "BadEntry"
journal_fault_text Read = codes "Read"
journal_fault_text (Write sent) = codes "Write"
journal_fault_text OutOfMemory = codes "OutOfMemory"
