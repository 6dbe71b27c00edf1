-- Steps that may fail, one after another, and what a function returned against what reading gives.
use Rattle.std.specs.Prelude.{◌≡◌, Bool, Result, Ok, Err, MatchBool}

infixl 10 ◌>>=◌
-- the next step with what the first gave, or the first's fault
abbrev pub ◌>>=◌ : {A B E : Type 0} → Result A E → (A → Result B E) → Result B E
(Ok x) >>= f = f x
(Err e) >>= f = Err e

-- the fault that was returned is the one that reading gives, but for want of memory, of which nothing is said
abbrev pub FailsBut : {Y E : Type 0} → (E → Bool) → E → Result Y E → Type 0
FailsBut is_memory e read = MatchBool (is_memory e) (Unit {0}) (read ≡ Err e)

-- what was returned, seen by view, is what reading gives, but for want of memory
abbrev pub GivesBut : {X Y E : Type 0} → (E → Bool) → (X → Y) → Result X E → Result Y E → Type 0
GivesBut is_memory view (Ok x) read = read ≡ Ok (view x)
GivesBut is_memory view (Err e) read = FailsBut is_memory e read
