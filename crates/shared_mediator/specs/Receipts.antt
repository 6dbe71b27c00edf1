-- Receipts of a journal: whoever made a call keeps its entry, and the position at which the entry stands.
use Rattle.std.specs.Prelude.{◌≡◌, ℕ, ◌+◌, ◌≤◌, Bool, true, List, [], ◌∷◌, ◌++◌, map, Some, slice_get}
use Rattle.std.specs.List.{flat_map, AllByRecursion}
use Rattle.event_journal.specs.declared.entry.Entry.{Entry}
use Rattle.mediator_history.specs.Numbers.{is_in, AreDistinct}
use Rattle.shared_mediator.specs.declared.kept.KeptEntry.{KeptEntry}

-- the entry stands in the history at its position, which isn't before the place
pub record ReceiptStands (from : ℕ) (h : List Entry) (k : KeptEntry) : Type 0 where
  pub behind : from ≤ k.position
  pub there : slice_get h k.position ≡ Some k.entry

abbrev pub positions : List KeptEntry → List ℕ
positions kept = map (λ k. k.position) kept

-- each stands behind the one before it, and the first not before the floor
abbrev pub AreInOrder : ℕ → List KeptEntry → Type 0
AreInOrder floor [] = Unit {0}
AreInOrder floor (k ∷ kept) = (floor ≤ k.position) × AreInOrder (k.position + 1) kept

-- what all handles keep
abbrev pub all_kept : List (List KeptEntry) → List KeptEntry
all_kept handles = flat_map (λ kept. kept) handles

-- each kept entry stands in the history at its position, none before the place, no two at one position, and each handle's own in their
-- order
pub record AreReceipts (from : ℕ) (h : List Entry) (handles : List (List KeptEntry)) : Type 0 where
  pub stand : AllByRecursion (ReceiptStands from h) (all_kept handles)
  pub once : AreDistinct (positions (all_kept handles))
  pub in_order : AllByRecursion (AreInOrder from) handles

-- each entry from the place on that is to have a receipt has one
abbrev pub AreComplete : (Entry → Bool) → ℕ → List Entry → List (List KeptEntry) → Type 0
AreComplete wanted from h handles =
    (p : ℕ) (e : Entry) → from ≤ p → slice_get h p ≡ Some e → wanted e ≡ true → is_in p (positions (all_kept handles)) ≡ true

-- the receipt at the position is the first of the handle that is none of the journal's beside those of the other handles and those before it
pub record IsFirstRefused (from : ℕ) (h : List Entry) (handles : List (List KeptEntry)) (kept : List KeptEntry) (position : ℕ) : Type 0 where
  pub before : List KeptEntry
  pub refused : KeptEntry
  pub after : List KeptEntry
  pub kept_is : kept ≡ before ++ refused ∷ after
  pub at : refused.position ≡ position
  pub fit : AreReceipts from h (handles ++ before ∷ [])
  pub unfit : AreReceipts from h (handles ++ (before ++ refused ∷ []) ∷ []) → ⊥
