-- Laws of results.
use Rattle.std.proofs.Common.{◌≡◌, Bool, true, false, Result, Ok, Err, MatchBool, refl}
use Rattle.sequences.specs.Results.{◌>>=◌, FailsBut}

-- equal results hold equal values or equal faults
pub same_Ok : {A E : Type 0} (x y : A) → ◌≡◌ {A = Result A E} (Ok x) (Ok y) → x ≡ y
same_Ok x y e = cc

pub same_Err : {A E : Type 0} (k l : E) → ◌≡◌ {A = Result A E} (Err k) (Err l) → k ≡ l
same_Err k l e = cc

pub Err-Ok : {A E : Type 0} (k : E) (x : A) → ◌≡◌ {A = Result A E} (Err k) (Ok x) → ⊥
Err-Ok k x e = cc

-- what a step that gave a value was given
pub bind_Ok : {A B E : Type 0} (r : Result A E) (f : A → Result B E) (y : B) → (r >>= f) ≡ Ok y → (x : A) × (r ≡ Ok x) × (f x ≡ Ok y)
bind_Ok (Ok x) f y e = (x, refl, e)
bind_Ok (Err k) f y e = absurd (Err-Ok k y e)

-- where the fault of one reading is that of another, what was returned for the one serves the other
pub fails_along : {X Y E : Type 0} (is_memory : E → Bool) (e : E) (r : Result X E) (s : Result Y E) → (r ≡ Err e → s ≡ Err e) → FailsBut is_memory e r → FailsBut is_memory e s
fails_along is_memory e r s along fails = by_test (is_memory e) fails
  where
    by_test : (b : Bool) → MatchBool b (Unit {0}) (r ≡ Err e) → MatchBool b (Unit {0}) (s ≡ Err e)
    by_test true h = tt
    by_test false h = along h
