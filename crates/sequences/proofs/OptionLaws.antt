-- Laws of steps that may give nothing.
use Rattle.std.proofs.Common.{◌≡◌, false, List, [], ◌∷◌, ◌++◌, Option, Some, None, is_some, refl, ap, append_assoc}
use Rattle.std.proofs.lemmas.Option.{none-some}
use Rattle.sequences.specs.Options.{◌>>=◌, with_found}

-- what a step that gave a value was given
pub bind_some : {A B : Type 0} (o : Option A) (f : A → Option B) (y : B) → (o >>= f) ≡ Some y → (x : A) × (o ≡ Some x) × (f x ≡ Some y)
bind_some None f y e = absurd (none-some y e)
bind_some (Some x) f y e = (x, refl, e)

pub none_from_is_some : {A : Type 0} (o : Option A) → is_some o ≡ false → o ≡ None
none_from_is_some None e = refl
none_from_is_some (Some x) e = absurd cc

-- ---- items that are found one after another

pub with_found-nil : {A B : Type 0} (found : Option (List A × B)) → with_found [] found ≡ found
with_found-nil None = refl
with_found-nil (Some found) = refl

pub with_found_push : {A B : Type 0} (before : List A) (x : A) (found : Option (List A × B)) → with_found (before ++ x ∷ []) found ≡ with_found before (found >>= λ f. Some (x ∷ f.0, f.1))
with_found_push before x None = refl
with_found_push {A} {B} before x (Some f) =
    let pair : List A → Option (List A × B) = λ xs. Some (xs, f.1) in ap pair (append_assoc before (x ∷ []) f.0)
