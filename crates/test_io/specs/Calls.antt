-- Calls that are counted down to the one that fails.
use Rattle.std.specs.Prelude.{◌≡◌, ℕ, zero, suc, ◌^◌, ◌-◌, Result, IsErr, IfErr}
use Rattle.std.specs.IoError.{error_kind}
use Rattle.std.specs.declared.io.Error.{Error}
use Rattle.test_io.specs.declared.schedule.Schedule.{Schedule}

-- behind the call that fails so many come that none fails again
abbrev pub one_call_less : ℕ → ℕ
one_call_less zero = 2 ^ 64 - 1
one_call_less (suc n) = n

-- the call that is to fail does, with the error that is told; each call is counted, and changes nothing else
pub record FailsWhenDue {A : Type 0} (old new : Schedule) (result : Result A Error) : Type 0 where
  pub fails : old.until_failure ≡ 0 → IsErr result
  pub failure : old.until_failure ≡ 0 → IfErr result (λ e. error_kind e ≡ old.failure)
  pub counts : new.until_failure ≡ one_call_less old.until_failure
  pub most : new.most ≡ old.most
  pub kind : new.failure ≡ old.failure
