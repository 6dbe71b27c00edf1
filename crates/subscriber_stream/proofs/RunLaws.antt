-- The records of a run, part by part: what they add to a message, and how many of them fit.
use Rattle.std.proofs.Common.{◌≡◌, ℕ, suc, ◌+◌, ◌-◌, ◌<◌, ◌≤◌, Bool, true, false, cond, leb, List, [], ◌∷◌, length, map, take, Option, Some, refl, sym, ap, ◌∙◌, arith, nat_eq, length-append}
use Rattle.std.specs.List.{concat}
use Rattle.std.proofs.lemmas.Bool.{eq-eqb, le-leb, lt-leb, leb-true, leb-false}
use Rattle.std.proofs.lemmas.List.{length-take, take-map}
use Rattle.subscriber_stream.specs.declared.waiting.Waiting.TheVariants.{Bring}
use Rattle.subscriber_stream.specs.Items.{Item, Brought, joins, cost, total, fits}
use Rattle.subscriber_stream.specs.Texts.{fitting_texts}
use Rattle.subscriber_stream.specs.Waiting.{rest_of}
use Rattle.subscriber_stream.proofs.TextLaws.{fitting_few, fitting_small}

-- the records of these texts under an ID
abbrev pub brings : ℕ → List (List ℕ) → List Item
brings id texts = map (Brought id) texts

pub same_id : (id : ℕ) → nat_eq id id ≡ true
same_id id = eq-eqb id id refl

-- the octets of the set header before them
abbrev pub head : Option ℕ → ℕ → ℕ
head last id = cond (joins last id) 0 4

pub cost_is : (last : Option ℕ) (id : ℕ) (text : List ℕ) → cost last (Brought id text) ≡ head last id + length text
cost_is last id text = by_test (joins last id) where
  by_test : (b : Bool) → cond b (length text) (4 + length text) ≡ cond b 0 4 + length text
  by_test true = omega arith
  by_test false = refl

-- ---- what they add

pub total_joined : (id : ℕ) (texts : List (List ℕ)) → total (Some id) (brings id texts) ≡ length (concat texts)
total_joined id [] = refl
total_joined id (text ∷ texts) =
    let same : head (Some id) id ≡ 0 = ap (λ (b : Bool). cond b 0 4) (same_id id) in
    omega (arith, cost_is (Some id) id text, same, total_joined id texts, length-append text (concat texts))

pub total_brings : (last : Option ℕ) (id : ℕ) (texts : List (List ℕ)) → 0 < length texts → total last (brings id texts) ≡ head last id + length (concat texts)
total_brings last id [] some = absurd (omega arith)
total_brings last id (text ∷ texts) some =
    omega (arith, cost_is last id text, total_joined id texts, length-append text (concat texts))

-- ---- how many fit

fits_joined : (target id octets : ℕ) (texts : List (List ℕ)) → octets ≤ target → fits target (Some id) octets (brings id texts) ≡ fitting_texts (target - octets) texts
fits_joined target id octets [] le = refl
fits_joined target id octets (text ∷ texts) le =
    rw (same_id id) (by_test (leb (length text) (target - octets)) refl (λ within. fits_joined target id (octets + length text) texts within)) where
      by_test : (b : Bool) → leb (length text) (target - octets) ≡ b → (octets + length text ≤ target → fits target (Some id) (octets + length text) (brings id texts) ≡ fitting_texts (target - (octets + length text)) texts)
          → cond (leb (octets + length text) target) (suc (fits target (Some id) (octets + length text) (brings id texts))) 0 ≡ cond b (suc (fitting_texts (target - octets - length text) texts)) 0
      by_test true is others =
          let within : octets + length text ≤ target = omega (arith, leb-true (length text) (target - octets) is) in
          let room : target - (octets + length text) ≡ target - octets - length text = omega arith in
          rw (le-leb (octets + length text) target within) (ap suc (others within ∙ ap (λ (n : ℕ). fitting_texts n texts) room))
      by_test false is others = rw (lt-leb (octets + length text) target (omega (arith, leb-false (length text) (target - octets) is))) refl

pub fits_brings : (target : ℕ) (last : Option ℕ) (id octets : ℕ) (texts : List (List ℕ)) → octets + head last id ≤ target → fits target last octets (brings id texts) ≡ fitting_texts (target - (octets + head last id)) texts
fits_brings target last id octets [] le = refl
fits_brings target last id octets (text ∷ texts) le =
    rw (cost_is last id text) (by_test (leb (length text) (target - (octets + head last id))) refl) where
      by_test : (b : Bool) → leb (length text) (target - (octets + head last id)) ≡ b
          → cond (leb (octets + (head last id + length text)) target) (suc (fits target (Some id) (octets + (head last id + length text)) (brings id texts))) 0 ≡ cond b (suc (fitting_texts (target - (octets + head last id) - length text) texts)) 0
      by_test true is =
          let within : octets + (head last id + length text) ≤ target = omega (arith, leb-true (length text) (target - (octets + head last id)) is) in
          let room : target - (octets + (head last id + length text)) ≡ target - (octets + head last id) - length text = omega arith in
          rw (le-leb (octets + (head last id + length text)) target within) (ap suc (fits_joined target id (octets + (head last id + length text)) texts within ∙ ap (λ (n : ℕ). fitting_texts n texts) room))
      by_test false is = rw (lt-leb (octets + (head last id + length text)) target (omega (arith, leb-false (length text) (target - (octets + head last id)) is))) refl

pub fits_closed : (target : ℕ) (last : Option ℕ) (id octets : ℕ) (texts : List (List ℕ)) → target < octets + head last id → fits target last octets (brings id texts) ≡ 0
fits_closed target last id octets [] over = refl
fits_closed target last id octets (text ∷ texts) over = rw (cost_is last id text, lt-leb (octets + (head last id + length text)) target (omega (arith, over))) refl

-- so many of them fit, and then the message has so many octets
pub record Fitted (target : ℕ) (last : Option ℕ) (id octets : ℕ) (texts : List (List ℕ)) (parts whole : ℕ) : Type 0 where
  pub parts_are : parts ≡ fits target last octets (brings id texts)
  pub octets_are : whole ≡ octets + total last (take parts (brings id texts))
  pub small : whole ≤ target

pub fitted : (target : ℕ) (last : Option ℕ) (id octets opened : ℕ) (texts : List (List ℕ)) (parts more : ℕ) → opened ≡ octets + head last id → opened ≤ target → parts ≡ fitting_texts (target - opened) texts → (parts ≡ 0 → ⊥) → more ≡ length (concat (take parts texts)) → Fitted target last id octets texts parts (opened + more)
fitted target last id octets opened texts parts more opened_is le parts_is some more_is =
    let few : parts ≤ length texts = omega (arith, parts_is, fitting_few (target - opened) texts) in
    let small : length (concat (take parts texts)) ≤ target - opened = rw parts_is (fitting_small (target - opened) texts) in
    let first : total last (take parts (brings id texts)) ≡ head last id + length (concat (take parts texts)) = ap (total last) (take-map (Brought id) parts texts) ∙ total_brings last id (take parts texts) (omega (arith, few, some, length-take parts texts)) in
    record {
      parts_are = parts_is ∙ ap (λ (n : ℕ). fitting_texts (target - n) texts) opened_is ∙ sym (fits_brings target last id octets texts (omega (arith, opened_is, le)));
      octets_are = omega (arith, opened_is, more_is, first);
      small = omega (arith, small, more_is, le);
    }

-- none of them fits where none of the texts does
pub none_fitted : (target : ℕ) (last : Option ℕ) (id octets opened : ℕ) (texts : List (List ℕ)) (parts : ℕ) → opened ≡ octets + head last id → opened ≤ target → parts ≡ fitting_texts (target - opened) texts → parts ≡ 0 → 0 ≡ fits target last octets (brings id texts)
none_fitted target last id octets opened texts parts opened_is le parts_is none =
    sym none ∙ parts_is ∙ ap (λ (n : ℕ). fitting_texts (target - n) texts) opened_is ∙ sym (fits_brings target last id octets texts (omega (arith, opened_is, le)))

-- ---- what is left of a run

pub rest_none : (id : ℕ) (texts : List (List ℕ)) → length texts ≡ 0 → rest_of id texts ≡ []
rest_none id [] none = refl
rest_none id (text ∷ texts) none = absurd (omega arith)

pub rest_some : (id : ℕ) (texts : List (List ℕ)) → 0 < length texts → rest_of id texts ≡ Bring id texts ∷ []
rest_some id [] some = absurd (omega arith)
rest_some id (text ∷ texts) some = refl
