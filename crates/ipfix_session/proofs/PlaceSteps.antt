-- What stands under each key of places.
use Rattle.std.proofs.Common.{◌≡◌, ℕ, Bool, true, false, cond, List, [], ◌∷◌, Option, Some, None, refl, sym, ap, ◌∙◌}
use Rattle.std.specs.Prelude.{◌||◌, is_some}
use Rattle.std.specs.Cmp.{eq_by_cmp_equiv, nat_cmp_total}
use Rattle.std.specs.declared.cmp.Ordering.{Ordering}
use Rattle.std.specs.declared.cmp.Ordering.TheVariants.{Less, Equal, Greater}
use Rattle.std.specs.Ordering.{nat_cmp, eq_by_cmp, match_ordering, is_eq}
use Rattle.std.specs.Map.{keys_of, lookup, set_value}
use Rattle.std.specs.BTreeMap.{is_at, insert_entry}
use Rattle.std.specs.List.{IsDistinct}
use Rattle.std.proofs.lemmas.Option.{same_Some}
use Rattle.std.proofs.lemmas.Map.{lookup-none}
use Rattle.std.proofs.lemmas.Map.Keys.{IsDistinct-tail}
use Rattle.std.proofs.lemmas.Map.Entries.{none_past_head}
use Rattle.sequences.proofs.OptionLaws.{none_from_is_some}
use Rattle.ipfix_session.specs.Keeping.{at_key}
use Rattle.ipfix_session.specs.Places.{with_shown, shown_in, shown_of, is_among}

module _ {X Y : Type 0} (f : X → Option Y) where
  -- ---- what is shown under a key stands there

  abbrev seen_with : Bool → Option Y → Option Y → Option Y
  seen_with here None others = others
  seen_with here (Some y) others = cond here (Some y) others

  at_with : (q key : ℕ) (o : Option Y) (others : List (ℕ × Y)) → at_key q (with_shown key o others) ≡ seen_with (is_at (nat_cmp q) key) o (at_key q others)
  at_with q key None others = refl
  at_with q key (Some y) others = refl

  seen_by : (here : Bool) (o others : Option Y) (found : Option X) → others ≡ shown_of f found → (here ≡ true → found ≡ None) → seen_with here o others ≡ cond here o (shown_of f found)
  seen_by true None others found is none = is ∙ ap (shown_of f) (none refl)
  seen_by true (Some y) others found is none = refl
  seen_by false None others found is none = is
  seen_by false (Some y) others found is none = is

  shown_by : (here : Bool) (x : X) (found : Option X) → cond here (f x) (shown_of f found) ≡ shown_of f (cond here (Some x) found)
  shown_by true x found = refl
  shown_by false x found = refl

  pub shown-at : (q : ℕ) (es : List (ℕ × X)) → IsDistinct (eq_by_cmp nat_cmp) (keys_of es) → at_key q (shown_in f es) ≡ shown_of f (at_key q es)
  shown-at q [] distinct = refl
  shown-at q (e ∷ es) distinct =
      at_with q e.0 (f e.1) (shown_in f es)
      ∙ seen_by (is_at (nat_cmp q) e.0) (f e.1) (at_key q (shown_in f es)) (at_key q es) (shown-at q es (IsDistinct-tail (eq_by_cmp nat_cmp) e.0 (keys_of es) distinct))
      (λ here. lookup-none (is_at (nat_cmp q)) es (none_past_head (eq_by_cmp_equiv nat_cmp_total) q e es distinct here))
      ∙ shown_by (is_at (nat_cmp q) e.0) e.1 (at_key q es)

  -- ---- a new place in which nothing stands

  room_by : (r : Ordering) (k : ℕ) (x : X) (e : ℕ × X) (es made : List (ℕ × X)) → f x ≡ None → cond (is_eq r) (Some e.1) (at_key k es) ≡ None → (at_key k es ≡ None → shown_in f made ≡ shown_in f es)
      → shown_in f (match_ordering r ((k, x) ∷ e ∷ es) ((e.0, x) ∷ es) (e ∷ made)) ≡ shown_in f (e ∷ es)
  room_by Less k x e es made nothing none others = ap (λ (o : Option Y). with_shown k o (shown_in f (e ∷ es))) nothing
  room_by Equal k x e es made nothing none others = absurd cc
  room_by Greater k x e es made nothing none others = ap (with_shown e.0 (f e.1)) (others none)

  shown_room : (k : ℕ) (x : X) (es : List (ℕ × X)) → f x ≡ None → at_key k es ≡ None → shown_in f (insert_entry nat_cmp es k x) ≡ shown_in f es
  shown_room k x [] nothing none = ap (λ (o : Option Y). with_shown k o []) nothing
  shown_room k x (e ∷ es) nothing none = room_by (nat_cmp k e.0) k x e es (insert_entry nat_cmp es k x) nothing none (shown_room k x es nothing)

  pub shown-room : (k : ℕ) (x : X) (es : List (ℕ × X)) → f x ≡ None → is_some (at_key k es) ≡ false → shown_in f (insert_entry nat_cmp es k x) ≡ shown_in f es
  shown-room k x es nothing none = shown_room k x es nothing (none_from_is_some (at_key k es) none)

  -- ---- a place in which the same stands

  set_by : (here : Bool) (e : ℕ × X) (es set : List (ℕ × X)) (found : Option X) (old new : X) → cond here (Some e.1) found ≡ Some old → f new ≡ f old → (found ≡ Some old → shown_in f set ≡ shown_in f es) → shown_in f (cond here ((e.0, new) ∷ es) (e ∷ set)) ≡ shown_in f (e ∷ es)
  set_by true e es set found old new is same others = ap (λ (o : Option Y). with_shown e.0 o (shown_in f es)) (same ∙ ap f (sym (same_Some e.1 old is)))
  set_by false e es set found old new is same others = ap (with_shown e.0 (f e.1)) (others is)

  pub shown-set : (test : ℕ → Bool) (es : List (ℕ × X)) (old new : X) → lookup test es ≡ Some old → f new ≡ f old → shown_in f (set_value test es new) ≡ shown_in f es
  shown-set test [] old new is same = refl
  shown-set test (e ∷ es) old new is same = set_by (test e.0) e es (set_value test es new) (lookup test es) old new is same (λ there. shown-set test es old new there same)

-- ---- the keys

among_by : {X : Type 0} (here : Bool) (x : X) (found : Option X) (later : Bool) → is_some found ≡ later → is_some (cond here (Some x) found) ≡ (here || later)
among_by true x found later is = refl
among_by false x found later is = is

-- a key with a place is one of the keys
pub among-keys : {X : Type 0} (q : ℕ) (es : List (ℕ × X)) → is_some (at_key q es) ≡ is_among q (keys_of es)
among-keys q [] = refl
among-keys q (e ∷ es) = among_by (is_at (nat_cmp q) e.0) e.1 (at_key q es) (is_among q (keys_of es)) (among-keys q es)
