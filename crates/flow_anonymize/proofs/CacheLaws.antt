-- Plans that are put into a cache.
use Rattle.std.proofs.Common.{◌≡◌, ℕ, zero, suc, ◌<◌, List, [], ◌∷◌, ◌++◌, length, set, slice_get, Option, Some, None, IsSomeAnd, refl, arith}
use mathlib.Core.Logic.{inl, inr}
use Rattle.ipfix_template.specs.declared.template.Template.{Template}
use Rattle.flow_anonymize.specs.declared.slot.Slot.{Slot}
use Rattle.flow_anonymize.specs.PlanCache.{IsOpen, IsPut}

got_push : {A : Type 0} (P : A → Type 0) (xs : List A) (x : A) (k : ℕ) → IsSomeAnd (slice_get xs k) P → IsSomeAnd (slice_get (xs ++ x ∷ []) k) P
got_push P [] x k is = absurd is
got_push P (y ∷ ys) x zero is = is
got_push P (y ∷ ys) x (suc k) is = got_push P ys x k is

pub open_push : (slots : List Slot) (slot : Slot) (writing : Option Template) (place : Option ℕ) → IsOpen slots writing place → IsOpen (slots ++ slot ∷ []) writing place
open_push slots slot writing None is = tt
open_push slots slot writing (Some k) is = got_push _ slots slot k is

got_last : {A : Type 0} (xs : List A) (x : A) → slice_get (xs ++ x ∷ []) (length xs) ≡ Some x
got_last [] x = refl
got_last (y ∷ ys) x = got_last ys x

pub put_push : (slots new : List Slot) (slot : Slot) (k : ℕ) → k ≡ length slots → new ≡ slots ++ slot ∷ [] → IsPut slots slot k new
put_push slots new slot k at is = record { there = rw (is, at) (got_last slots slot); others = inl is }

got_set : {A : Type 0} (xs : List A) (k : ℕ) (x : A) → k < length xs → slice_get (set xs k x) k ≡ Some x
got_set [] k x l = absurd (omega arith)
got_set (y ∷ ys) zero x l = refl
got_set (y ∷ ys) (suc k) x l = got_set ys k x (omega (arith, l))

pub put_set : (slots : List Slot) (slot : Slot) (k : ℕ) → k < length slots → IsPut slots slot k (set slots k slot)
put_set slots slot k l = record { there = got_set slots k slot l; others = inr refl }
