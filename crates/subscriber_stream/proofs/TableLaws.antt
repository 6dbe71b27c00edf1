-- What a table of shared templates says of the templates.
use Rattle.std.proofs.Common.{◌≡◌, ℕ, zero, suc, ◌+◌, Bool, true, false, cond, not, List, [], ◌∷◌, Some, refl, sym, ap, ◌∙◌, arith}
use Rattle.std.specs.Prelude.{map, slice_get, ◌||◌}
use Rattle.std.specs.List.{AllByRecursion, IsDistinct, list_any, position_or_len}
use Rattle.std.proofs.lemmas.Map.Keys.{IsDistinct-head, IsDistinct-tail}
use Rattle.std.proofs.lemmas.Option.{same_Some}
use Rattle.ipfix_template.specs.declared.template.Template.{Template}
use Rattle.ipfix_template.specs.Equality.{same_template}
use Rattle.ipfix_template.specs.SameTemplate.{same_template-is}

pub list_any-map : {A B : Type 0} (f : A → B) (p : B → Bool) (xs : List A) → list_any p (map f xs) ≡ list_any (λ x. p (f x)) xs
list_any-map f p [] = refl
list_any-map f p (x ∷ xs) = ap (λ (b : Bool). p (f x) || b) (list_any-map f p xs)

pub position_or_len-map : {A B : Type 0} (f : A → B) (p : B → Bool) (xs : List A) → position_or_len p (map f xs) ≡ position_or_len (λ x. p (f x)) xs
position_or_len-map f p [] = refl
position_or_len-map f p (x ∷ xs) = ap (λ (n : ℕ). cond (not (p (f x))) (1 + n) 0) (position_or_len-map f p xs)

pub map-chosen : {A B : Type 0} (f : A → B) (b : Bool) (xs ys : List A) → map f (cond b xs ys) ≡ cond b (map f xs) (map f ys)
map-chosen f true xs ys = refl
map-chosen f false xs ys = refl

-- none of them passes, and so not the one at this place
none_at : {A : Type 0} (f : A → Template) (p : Template → Bool) (keys : List A) (i : ℕ) (s : Template) → AllByRecursion (λ k. p (f k) ≡ false) keys → slice_get (map f keys) i ≡ Some s → p s ≡ false
none_at f p [] i s none at = absurd cc
none_at f p (k ∷ keys) zero s none at = ap p (sym (same_Some {A = Template} (f k) s at)) ∙ none.0
none_at f p (k ∷ keys) (suc i) s none at = none_at f p keys i s none.1 at

-- of keys whose templates differ, one that is equal to a template is the first that is
pub placed_again : {A : Type 0} (f : A → Template) (keys : List A) (i : ℕ) (t s : Template) → IsDistinct (λ a b. same_template (f a) (f b)) keys → slice_get (map f keys) i ≡ Some s → same_template t s ≡ true
    → (i ≡ position_or_len (same_template t) (map f keys)) × (list_any (same_template t) (map f keys) ≡ true)
placed_again f [] i t s apart at is = absurd cc
placed_again f (k ∷ keys) zero t s apart at is =
    let here : same_template t (f k) ≡ true = ap (same_template t) (same_Some {A = Template} (f k) s at) ∙ is in
    rw here (refl, refl)
placed_again f (k ∷ keys) (suc i) t s apart at is =
    by_test (same_template t (f k)) refl (none_at f (same_template (f k)) keys i s (IsDistinct-head _ k keys apart) at) (placed_again f keys i t s (IsDistinct-tail _ k keys apart) at is) where
      by_test : (b : Bool) → same_template t (f k) ≡ b → same_template (f k) s ≡ false → (i ≡ position_or_len (same_template t) (map f keys)) × (list_any (same_template t) (map f keys) ≡ true)
          → (suc i ≡ cond (not b) (1 + position_or_len (same_template t) (map f keys)) 0) × ((b || list_any (same_template t) (map f keys)) ≡ true)
      by_test true same other others =
          let there : same_template (f k) s ≡ true = ap (λ (u : Template). same_template u s) (sym (same_template-is t (f k) same)) ∙ is in
          absurd cc
      by_test false same other others = (omega (arith, others.0), others.1)
