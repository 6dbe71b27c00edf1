-- The first cut that waits and isn't borne out.
use Rattle.std.proofs.Common.{◌≡◌, ℕ, Bool, true, false, zero, suc, ◌+◌, ◌<◌, ◌≤◌, List, [], ◌∷◌, ◌++◌, length, map, take, get_or, Option, Some, None, refl, sym, ap, ◌∙◌, subst, arith}
use Rattle.std.specs.Prelude.{not, ◌≢◌, ◌==◌, slice_get, IsSomeAnd, IfSome}
use Rattle.std.specs.List.{AllByRecursion}
use Rattle.std.proofs.lemmas.Bool.{eqb-true, eqb-false}
use Rattle.std.proofs.lemmas.List.{take_more, take_all}
use Rattle.ipfix_template.specs.DataRecord.{DataRecord}
use Rattle.history_verify.specs.Sharing.{IsFirstEmptyShare}
use Rattle.history_verify.specs.Standing.{IsFirstEmpty, IsFirstOr}

pub all_push : {A : Type 0} (P : A → Type 0) (xs : List A) (x : A) → AllByRecursion P xs → P x → AllByRecursion P (xs ++ x ∷ [])
all_push P [] x all this = (this, tt)
all_push P (y ∷ xs) x all this = (all.0, all_push P xs x all.1 this)

-- ---- what is empty

pub empty_list : {A : Type 0} (xs : List A) (b : Bool) → b ≡ (length xs == 0) → b ≡ true → xs ≡ []
empty_list xs b is on = none xs (eqb-true (length xs) 0 (sym is ∙ on)) where
  none : {A : Type 0} (xs : List A) → length xs ≡ 0 → xs ≡ []
  none [] e = refl
  none (x ∷ xs) e = absurd (omega (arith, e))

pub some_list : {A : Type 0} (xs : List A) (b : Bool) → b ≡ (length xs == 0) → b ≡ false → xs ≢ []
some_list xs b is off e = eqb-false (length xs) 0 (sym is ∙ off) (ap (λ l. length l) e)

pub not_empty_where : {A : Type 0} (xs : List A) (b : Bool) → b ≡ (length xs == 0) → not b ≡ false → xs ≡ []
not_empty_where xs true is off = empty_list xs true is refl
not_empty_where xs false is off = absurd cc

-- ---- one cut after another

pub first_at : (gives : ℕ → List DataRecord) (ws : List ℕ) (place other : ℕ) → place < length ws → AllByRecursion (λ s. gives s ≢ []) (take place ws) → gives (get_or ws place other) ≡ [] → IsFirstEmpty gives ws place
first_at gives [] place other within all empty = absurd (omega (arith, within))
first_at gives (w ∷ ws) zero other within all empty = record { front = []; sub = w; back = ws; subs_are = refl; there = refl; others = tt; empty = empty }
first_at gives (w ∷ ws) (suc place) other within all empty =
    let rest = first_at gives ws place other (omega (arith, within)) all.1 empty in
    record {
      front = w ∷ rest.front;
      sub = rest.sub;
      back = rest.back;
      subs_are = ap (λ (t : List ℕ). w ∷ t) rest.subs_are;
      there = omega (arith, rest.there);
      others = (all.0, rest.others);
      empty = rest.empty;
    }

pub first_seen : (gives : ℕ → List DataRecord) (ws seen : List ℕ) (place other : ℕ) → seen ≡ ws → place < length seen → AllByRecursion (λ s. gives s ≢ []) (take place ws) → gives (get_or seen place other) ≡ [] → IsFirstEmpty gives ws place
first_seen gives ws seen place other same within all empty =
    first_at gives ws place other (omega (arith, within, ap (λ (l : List ℕ). length l) same)) all (ap (λ (l : List ℕ). gives (get_or l place other)) (sym same) ∙ empty)

pub more_borne : (gives : ℕ → List DataRecord) (ws : List ℕ) (place other : ℕ) → place < length ws → AllByRecursion (λ s. gives s ≢ []) (take place ws) → gives (get_or ws place other) ≢ [] → AllByRecursion (λ s. gives s ≢ []) (take (place + 1) ws)
more_borne gives ws place other within all this =
    subst (AllByRecursion (λ s. gives s ≢ [])) (sym (take_more ws place other within)) (all_push (λ s. gives s ≢ []) (take place ws) (get_or ws place other) all this)

pub all_borne : (gives : ℕ → List DataRecord) (ws : List ℕ) (place : ℕ) → length ws ≤ place → AllByRecursion (λ s. gives s ≢ []) (take place ws) → AllByRecursion (λ s. gives s ≢ []) ws
all_borne gives ws place end all = subst (AllByRecursion (λ s. gives s ≢ [])) (take_all place ws end) all

-- ---- by their shares

abbrev pub share_with : (ℕ → List DataRecord) → ℕ → ℕ × List DataRecord
share_with gives sub = (sub, gives sub)

all_of_shares : (gives : ℕ → List DataRecord) (ws : List ℕ) → AllByRecursion (λ s. s.1 ≢ []) (map (share_with gives) ws) → AllByRecursion (λ s. gives s ≢ []) ws
all_of_shares gives [] all = tt
all_of_shares gives (w ∷ ws) all = (all.0, all_of_shares gives ws all.1)

first_of_shares : (gives : ℕ → List DataRecord) (ws : List ℕ) (place : ℕ) → AllByRecursion (λ s. s.1 ≢ []) (take place (map (share_with gives) ws))
    → IsSomeAnd (slice_get (map (share_with gives) ws) place) (λ s. s.1 ≡ []) → IsFirstEmpty gives ws place
first_of_shares gives [] place all empty = absurd empty
first_of_shares gives (w ∷ ws) zero all empty = record { front = []; sub = w; back = ws; subs_are = refl; there = refl; others = tt; empty = empty }
first_of_shares gives (w ∷ ws) (suc place) all empty =
    let rest = first_of_shares gives ws place all.1 empty in
    record {
      front = w ∷ rest.front;
      sub = rest.sub;
      back = rest.back;
      subs_are = ap (λ (t : List ℕ). w ∷ t) rest.subs_are;
      there = omega (arith, rest.there);
      others = (all.0, rest.others);
      empty = rest.empty;
    }

pub first_by_shares : (gives : ℕ → List DataRecord) (ws : List ℕ) (place : Option ℕ) → IsFirstEmptyShare (map (share_with gives) ws) place → IsFirstOr gives ws place
first_by_shares gives ws None is = all_of_shares gives ws is
first_by_shares gives ws (Some place) is = first_of_shares gives ws place is.0 is.1

within_some : {A : Type 0} (P : A → Type 0) (xs : List A) (n : ℕ) → IsSomeAnd (slice_get xs n) P → n < length xs
within_some P [] n is = absurd is
within_some P (x ∷ xs) zero is = omega arith
within_some P (x ∷ xs) (suc n) is = omega (arith, within_some P xs n is)

pub place_within : (shares : List (ℕ × List DataRecord)) (n : ℕ) (place : Option ℕ) → length shares ≡ n → IsFirstEmptyShare shares place → IfSome place (λ p. p < n)
place_within shares n None are is = tt
place_within shares n (Some place) are is = omega (arith, are, within_some (λ s. s.1 ≡ []) shares place is.1)
