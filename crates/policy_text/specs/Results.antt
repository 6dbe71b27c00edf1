-- Results of reading, and what a function returned against them.
use Rattle.std.specs.Prelude.{◌≡◌, ℕ, Bool, true, false, Option, Some, None, Result, Ok, Err, MatchBool, if◌then◌else◌}
use Rattle.sequences.specs.Results.{FailsBut, GivesBut}
use Rattle.policy_text.specs.declared.fault.FaultKind.{FaultKind}
use Rattle.policy_text.specs.declared.fault.FaultKind.TheVariants.{NoHeader, UnknownWord, BadName, BadNumber, BadPrefix, BadTruncate, UnknownAggregate, DoubleAggregate, BadKey, TooMany, OutOfMemory, BadDegrade}
use Rattle.policy_text.specs.declared.fault.Fault.{Fault}

-- a value, or this fault
abbrev pub or_fault : {A : Type 0} → FaultKind → Option A → Result A FaultKind
or_fault kind None = Err kind
or_fault kind (Some a) = Ok a

abbrev pub is_memory : FaultKind → Bool
is_memory NoHeader = false
is_memory UnknownWord = false
is_memory BadName = false
is_memory BadNumber = false
is_memory BadPrefix = false
is_memory BadTruncate = false
is_memory UnknownAggregate = false
is_memory DoubleAggregate = false
is_memory BadKey = false
is_memory TooMany = false
is_memory OutOfMemory = true
is_memory BadDegrade = false

-- the fault is the one that reading gives, unless memory ran out
abbrev pub Fails : {Y : Type 0} → FaultKind → Result Y FaultKind → Type 0
Fails kind read = FailsBut is_memory kind read

-- what a function returned, seen by view, is what reading gives
abbrev pub Gives : {X Y : Type 0} → (X → Y) → Result X FaultKind → Result Y FaultKind → Type 0
Gives view answer read = GivesBut is_memory view answer read

-- the same of a policy's text; where memory ran out the line is 0
abbrev pub Parses : {X Y : Type 0} → (X → Y) → Result X Fault → Result Y Fault → Type 0
Parses view (Ok x) read = read ≡ Ok (view x)
Parses view (Err fault) read = MatchBool (is_memory fault.kind) (fault.line ≡ 0) (read ≡ Err fault)

-- a fault of a line; want of memory has no line
abbrev pub fault_at : ℕ → FaultKind → Fault
fault_at n kind = record { line = if is_memory kind then 0 else n; kind = kind }

-- a fault at a line
abbrev pub at_line : {A : Type 0} → ℕ → Result A FaultKind → Result A Fault
at_line n (Ok a) = Ok a
at_line n (Err kind) = Err (record { line = n; kind = kind })

abbrev pub then_read : {A B : Type 0} → Result A Fault → (A → Result B Fault) → Result B Fault
then_read (Ok x) f = f x
then_read (Err e) f = Err e
