-- Laws of what is read by what stood before.
use Rattle.std.proofs.Common.{◌≡◌, List, [], ◌∷◌, ◌++◌, Option, Some, None, refl, sym, ap, ◌∙◌, inl, inr, append_assoc, append-nil}
use Rattle.std.specs.Prelude.{unwrap_or}
use Rattle.sequences.specs.Before.{each_after, each_with_before, last_of, HasNone, IsLast, IsLastOr}

pub each_after-append : {A B : Type 0} (f : List A → A → List B) (before xs ys : List A) → each_after f before (xs ++ ys) ≡ each_after f before xs ++ each_after f (before ++ xs) ys
each_after-append f before [] ys = ap (λ b. each_after f b ys) (sym (append-nil before))
each_after-append f before (x ∷ xs) ys =
    ap (λ t. f before x ++ t) (each_after-append f (before ++ x ∷ []) xs ys)
    ∙ ap (λ b. f before x ++ (each_after f (before ++ x ∷ []) xs ++ each_after f b ys)) (append_assoc before (x ∷ []) xs)
    ∙ sym (append_assoc (f before x) (each_after f (before ++ x ∷ []) xs) (each_after f (before ++ x ∷ xs) ys))

pub each_with_before-append : {A B : Type 0} (f : List A → A → List B) (xs ys : List A) → each_with_before f (xs ++ ys) ≡ each_with_before f xs ++ each_after f xs ys
each_with_before-append f xs ys = each_after-append f [] xs ys

-- one more entry gives what it gives after all that stand before it
pub each_with_before-push : {A B : Type 0} (f : List A → A → List B) (h : List A) (e : A) → each_with_before f (h ++ e ∷ []) ≡ each_with_before f h ++ f h e
each_with_before-push f h e = each_with_before-append f h (e ∷ []) ∙ ap (λ t. each_with_before f h ++ t) (append-nil (f h e))

pub last_of-append : {A B : Type 0} (f : A → Option B) (start : B) (xs ys : List A) → last_of f start (xs ++ ys) ≡ last_of f (last_of f start xs) ys
last_of-append f start [] ys = refl
last_of-append f start (x ∷ xs) ys = last_of-append f (unwrap_or (f x) start) xs ys

pub last_of-push : {A B : Type 0} (f : A → Option B) (start : B) (h : List A) (e : A) → last_of f start (h ++ e ∷ []) ≡ unwrap_or (f e) (last_of f start h)
last_of-push f start h e = last_of-append f start h (e ∷ [])

-- ---- the last value, found by its place

-- one entry more before the others
after_entry : {A B : Type 0} (f : A → Option B) (e : A) (entries : List A) (value : B) → IsLast f entries value → IsLast f (e ∷ entries) value
after_entry {A} f e entries value h = record {
  front = e ∷ h.front;
  entry = h.entry;
  back = h.back;
  entries_are = ap (λ (es : List A). e ∷ es) h.entries_are;
  has = h.has;
  none_after = h.none_after;
}

-- an entry before others that have no value
alone : {A B : Type 0} (f : A → Option B) (start : B) (e : A) (entries : List A) (value : B) (at : Option B) → f e ≡ at → HasNone f entries → value ≡ unwrap_or at start → IsLastOr f start (e ∷ entries) value
alone f start e entries value None is none same = inr ((is, none), same)
alone {A} {B} f start e entries value (Some v) is none same =
    let some : B → Option B = λ x. Some x in
    inl record { front = []; entry = e; back = entries; entries_are = refl; has = is ∙ ap some (sym same); none_after = none }

pub last_of-found : {A B : Type 0} (f : A → Option B) (start : B) (entries : List A) (value : B) → last_of f start entries ≡ value → IsLastOr f start entries value
last_of-found f start [] value is = inr (tt, sym is)
last_of-found f start (e ∷ entries) value is = elim (last_of-found f (unwrap_or (f e) start) entries value is) [
  | inl last ↦ inl (after_entry f e entries value last)
  | inr none ↦ alone f start e entries value (f e) refl none.0 none.1
]

pub last_of-none : {A B : Type 0} (f : A → Option B) (start : B) (entries : List A) → HasNone f entries → last_of f start entries ≡ start
last_of-none f start [] none = refl
last_of-none f start (e ∷ entries) none = ap (λ o. last_of f (unwrap_or o start) entries) none.0 ∙ last_of-none f start entries none.1

pub last_of-last : {A B : Type 0} (f : A → Option B) (start : B) (entries : List A) (value : B) → IsLast f entries value → last_of f start entries ≡ value
last_of-last f start entries value h =
    ap (last_of f start) h.entries_are
    ∙ last_of-append f start h.front (h.entry ∷ h.back)
    ∙ last_of-none f (unwrap_or (f h.entry) (last_of f start h.front)) h.back h.none_after
    ∙ ap (λ o. unwrap_or o (last_of f start h.front)) h.has

pub last_of-only : {A B : Type 0} (f : A → Option B) (start : B) (entries : List A) (value : B) → IsLastOr f start entries value → last_of f start entries ≡ value
last_of-only f start entries value h = elim h [
  | inl last ↦ last_of-last f start entries value last
  | inr none ↦ last_of-none f start entries none.0 ∙ sym none.1
]
