-- Faults through steps.
use Rattle.std.proofs.Common.{◌≡◌, Result, Ok, Err, refl, ap, ◌∙◌}
use Rattle.sequences.specs.Results.{◌>>=◌}
use Rattle.sequences.proofs.ResultLaws.{fails_along}
use Rattle.policy_text.specs.declared.fault.FaultKind.{FaultKind}
use Rattle.policy_text.specs.Results.{Fails, is_memory}

-- a fault of a step is that of the whole
pub Fails-bind : {A B : Type 0} (kind : FaultKind) (r : Result A FaultKind) (f : A → Result B FaultKind) → Fails kind r → Fails kind (r >>= f)
Fails-bind kind r f = fails_along is_memory kind r (r >>= f) (λ e. ap (λ x. x >>= f) e)

pub Fails-same : {A : Type 0} (kind : FaultKind) (r s : Result A FaultKind) → r ≡ s → Fails kind s → Fails kind r
Fails-same kind r s e = fails_along is_memory kind s r (λ h. e ∙ h)

pub bind-Ok : {A : Type 0} (r : Result A FaultKind) → (r >>= λ x. Ok x) ≡ r
bind-Ok (Ok x) = refl
bind-Ok (Err e) = refl
