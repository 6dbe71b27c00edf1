-- The numbers of subscriptions: from 1 on, and each above those before it.
use Rattle.std.proofs.Common.{◌≡◌, ℕ, ◌+◌, ◌<◌, ◌≤◌, Bool, true, false, cond, List, [], ◌∷◌, ◌++◌, length, sym, ap, ◌∙◌, subst, arith, append-nil, length-append, refl}
use Rattle.std.specs.Prelude.{filter}
use Rattle.std.specs.List.{flat_map, AllByRecursion}
use Rattle.std.proofs.lemmas.Grind.{flat_map-append}
use Rattle.sequences.proofs.ListLaws.{AllByRecursion-append}
use Rattle.event_journal.specs.declared.entry.Entry.{Entry}
use Rattle.event_journal.specs.declared.entry.Entry.TheVariants.{Open, Close, Message, Edit, Subscribe, Unsubscribe, Advance, Cut}
use Rattle.mediator_history.specs.Subscriptions.{subscribed_in}
use Rattle.mediator_history.proofs.ListFilters.{all_of_filter}
use Rattle.mediator_state.specs.Ascending.{Ascend}
use Rattle.mediator_state.proofs.AscendLaws.{ascend_filter, ascend_push, all_below}
use Rattle.history_verify.specs.Legal.{IsAccepted}

-- these numbers are above 0 and ascend, and none is greater than there are of them
pub record AreNumbers (subs : List ℕ) : Type 0 where
  pub ascend : Ascend (0 ∷ subs)
  pub within : AllByRecursion (λ sub. sub ≤ length subs) subs

-- so are those of the subscriptions that began
abbrev pub IsNumbered : List Entry → Type 0
IsNumbered h = AreNumbers (flat_map subscribed_in h)

pub numbered_first : IsNumbered []
numbered_first = record { ascend = (tt, tt); within = tt }

all_up : (n m : ℕ) (xs : List ℕ) → n ≤ m → AllByRecursion (λ x. x ≤ n) xs → AllByRecursion (λ x. x ≤ m) xs
all_up n m [] up all = tt
all_up n m (x ∷ xs) up all = (omega (arith, up, all.0), all_up n m xs up all.1)

one_more : (subs : List ℕ) (n : ℕ) → n ≡ length subs + 1 → AreNumbers subs → AreNumbers (subs ++ n ∷ [])
one_more subs n next so =
    let longer : length (subs ++ n ∷ []) ≡ length subs + 1 = length-append subs (n ∷ []) in
    record {
      ascend = ascend_push (0 ∷ subs) n so.ascend (omega (arith, next), all_below (length subs) n subs (omega (arith, next)) so.within);
      within = AllByRecursion-append (λ sub. sub ≤ length (subs ++ n ∷ [])) subs (n ∷ [])
          (all_up (length subs) (length (subs ++ n ∷ [])) subs (omega (arith, longer)) so.within) (omega (arith, longer, next), tt);
    }

-- an entry that begins no subscription
none_more : (h : List Entry) (e : Entry) → flat_map subscribed_in (e ∷ []) ≡ [] → IsNumbered h → IsNumbered (h ++ e ∷ [])
none_more h e none so =
    subst AreNumbers (sym (flat_map-append subscribed_in h (e ∷ []) ∙ ap (λ (t : List ℕ). flat_map subscribed_in h ++ t) none ∙ append-nil (flat_map subscribed_in h))) so

pub numbered_more : (h : List Entry) (e : Entry) → IsAccepted h e → IsNumbered h → IsNumbered (h ++ e ∷ [])
numbered_more h (Subscribe sub name) is so =
    subst AreNumbers (sym (flat_map-append subscribed_in h (Subscribe sub name ∷ []))) (one_more (flat_map subscribed_in h) sub is.number so)
numbered_more h (Open session) is so = none_more h (Open session) refl so
numbered_more h (Close session) is so = none_more h (Close session) refl so
numbered_more h (Message session number octets) is so = none_more h (Message session number octets) refl so
numbered_more h (Edit text) is so = none_more h (Edit text) refl so
numbered_more h (Unsubscribe sub) is so = none_more h (Unsubscribe sub) refl so
numbered_more h (Advance t) is so = none_more h (Advance t) refl so
numbered_more h (Cut sub) is so = absurd is

-- ---- some of them, above the same number

pub ascend_above : (n : ℕ) (p : ℕ → Bool) (xs : List ℕ) → Ascend (n ∷ xs) → Ascend (n ∷ filter p xs)
ascend_above n p xs up = (all_of_filter (λ y. n < y) p xs up.0, ascend_filter p xs up.1)
