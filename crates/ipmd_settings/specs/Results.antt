-- Results of reading, and what a function returned against them.
use Rattle.std.specs.Prelude.{Bool, true, false, Option, Some, None, Result, Ok, Err}
use Rattle.sequences.specs.Results.{GivesBut}
use Rattle.ipmd_settings.specs.declared.key.Key.{Key}
use Rattle.ipmd_settings.specs.declared.fault.Fault.{Fault}
use Rattle.ipmd_settings.specs.declared.fault.Fault.TheVariants as fault

-- what is read at a key, or the key's fault where nothing is
abbrev pub value_at_key : {A : Type 0} → Key → Option A → Result A Fault
value_at_key k None = Err (fault.Key k)
value_at_key k (Some a) = Ok a

abbrev pub is_memory : Fault → Bool
is_memory fault.TooLong = false
is_memory fault.Toml = false
is_memory (fault.Key k) = false
is_memory fault.OutOfMemory = true

-- what a function returned, seen by view, is what reading gives, unless memory ran out
abbrev pub GivesSet : {X Y : Type 0} → (X → Y) → Result X Fault → Result Y Fault → Type 0
GivesSet view answer read = GivesBut is_memory view answer read
