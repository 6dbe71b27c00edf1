-- Why a journal's file isn't kept.
use Rattle.std.specs.Prelude.{◌⊎◌, ℕ, List, ◌++◌, codes}
use Rattle.ipmd_commands.specs.declared.fault.Fault.{Fault as ProgramFault}
use Rattle.ipmd_commands.specs.Failures.{IsFileFault}
use Rattle.ipmd_run_journals.specs.Numbering.{file_name}

-- the name that a file has until it is whole
abbrev pub part_name : List ℕ → List ℕ
part_name name = name ++ codes ".part"

-- the file of this run can't be written, or can't get its name; or memory ran out
abbrev pub IsKeepingFault : List ℕ → ℕ → ProgramFault → Type 0
IsKeepingFault path number e = IsFileFault (part_name (file_name path number)) e ⊎ IsFileFault (file_name path number) e

-- the same of some file or folder
abbrev pub IsSomeFileFault : ProgramFault → Type 0
IsSomeFileFault e = (path : List ℕ) × IsFileFault path e
