-- Which faults may come of what.
use Rattle.journal_files.specs.declared.fault.Fault.{Fault}
use Rattle.journal_files.specs.declared.fault.Fault.TheVariants.{BadMagic, BadVersion, Truncated, BadEntry, Read, Write, OutOfMemory}

-- a fault of a file, which its octets show
abbrev pub IsFaultOfFile : Fault → Type 0
IsFaultOfFile BadMagic = Unit {0}
IsFaultOfFile BadVersion = Unit {0}
IsFaultOfFile Truncated = Unit {0}
IsFaultOfFile BadEntry = Unit {0}
IsFaultOfFile Read = ⊥
IsFaultOfFile (Write sent) = ⊥
IsFaultOfFile OutOfMemory = ⊥

-- where octets are decoded: a fault of the file, or want of memory
abbrev pub IsDecodingFault : Fault → Type 0
IsDecodingFault BadMagic = Unit {0}
IsDecodingFault BadVersion = Unit {0}
IsDecodingFault Truncated = Unit {0}
IsDecodingFault BadEntry = Unit {0}
IsDecodingFault Read = ⊥
IsDecodingFault (Write sent) = ⊥
IsDecodingFault OutOfMemory = Unit {0}

-- where a file is written: the sink failed, or want of memory
abbrev pub IsWritingFault : Fault → Type 0
IsWritingFault BadMagic = ⊥
IsWritingFault BadVersion = ⊥
IsWritingFault Truncated = ⊥
IsWritingFault BadEntry = ⊥
IsWritingFault Read = ⊥
IsWritingFault (Write sent) = Unit {0}
IsWritingFault OutOfMemory = Unit {0}
