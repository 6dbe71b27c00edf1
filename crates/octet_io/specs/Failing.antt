-- When a device has failed.
use Rattle.std.specs.Prelude.{◌≡◌, Bool, true, Result, MatchResult}

-- an answer that is an error makes a device failed, and no other does
abbrev pub FailsOnErr : {X E : Type 0} → Bool → Bool → Result X E → Type 0
FailsOnErr old new result = MatchResult result (λ _. new ≡ old) (λ _. new ≡ true)
