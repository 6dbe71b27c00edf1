-- What is said of what failed.
use Rattle.std.specs.Prelude.{◌≡◌, ◌⊎◌, ℕ, List, [], ◌∷◌, ◌++◌, map, codes, String, string_bytes, Some, None, if◌then◌else◌}
use Rattle.std.specs.Char.{is_control}
use Rattle.std.specs.Str.{chars, encode_utf8_all}
use Rattle.std.specs.declared.alloc.Global.{Global}
use Rattle.std.specs.declared.io.Error.{Error}
use Rattle.ipmd_commands.specs.declared.failure.Place.{Place}
use Rattle.ipmd_commands.specs.declared.failure.Place.TheVariants.{CommandLine, Input, Output, File, RandomNumbers, Threads}
use Rattle.ipmd_commands.specs.declared.failure.Failure.{Failure}
use Rattle.ipmd_commands.specs.declared.fault.Fault.{Fault}
use Rattle.ipmd_commands.specs.declared.fault.Fault.TheVariants as fault

-- what the program calls it
abbrev pub place_name : Place → List ℕ
place_name CommandLine = codes "command line"
place_name Input = codes "standard input"
place_name Output = codes "standard output"
place_name (File path) = string_bytes path
place_name RandomNumbers = codes "random numbers"
place_name Threads = codes "threads"

-- a character, but for one that could end the line: a question mark (63) stands for that
abbrev pub plain_char : ℕ → ℕ
plain_char c = (if is_control c then 63 else c)

abbrev pub plain : List ℕ → List ℕ
plain text = encode_utf8_all (map plain_char (chars text))

-- a name and what is said of it, and a line feed (10)
abbrev pub failure_line : List ℕ → List ℕ → List ℕ
failure_line name why = codes "ipmd: " ++ plain name ++ codes ": " ++ plain why ++ 10 ∷ []

-- which it was, and some text of why: that is the system's, which isn't told here
abbrev pub IsFailureLine : Failure → List ℕ → Type 0
IsFailureLine failure line = (why : List ℕ) × (line ≡ failure_line (place_name failure.place) why)

-- ---- which it was

-- the place failed so
abbrev pub failed_at : Place → Error → Fault
failed_at place why = fault.Device (Some (record { place = place; why = why }))

-- or in whatever way
abbrev pub FailedAt : Place → Fault → Type 0
FailedAt place e = (why : Error) × (e ≡ failed_at place why)

-- the file of this path did
abbrev pub FailedAtFile : List ℕ → Fault → Type 0
FailedAtFile path e = (text : String Global) × (string_bytes text ≡ path) × FailedAt (File text) e

-- or memory ran out
abbrev pub IsFileFault : List ℕ → Fault → Type 0
IsFileFault path e = (e ≡ fault.OutOfMemory) ⊎ FailedAtFile path e

-- a device that isn't known is called the file of this path, and any other fault stays
abbrev pub NamesFile : List ℕ → Fault → Fault → Type 0
NamesFile path (fault.Device None) named = IsFileFault path named
NamesFile path e named = named ≡ e
