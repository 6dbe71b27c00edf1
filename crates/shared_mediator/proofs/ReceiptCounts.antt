-- The receipts of a journal that goes on.
use Rattle.std.proofs.Common.{◌≡◌, ℕ, ◌+◌, ◌≤◌, List, [], ◌∷◌, ◌++◌, length, map, take, drop, refl, ap, ◌∙◌, length-append}
use Rattle.std.specs.Prelude.{filter}
use Rattle.std.proofs.lemmas.List.{take-append-le, drop-append-le}
use Rattle.std.proofs.lemmas.List.Elements.{filter-append}
use Rattle.event_journal.specs.declared.entry.Entry.{Entry}
use Rattle.event_journal.specs.declared.entry.Entry.TheVariants.{Cut}
use Rattle.shared_mediator.specs.Counted.{has_receipt, receipts_in}

pub receipts_more : (from : ℕ) (g h more : List Entry) → g ≡ h ++ more → from ≤ length h → receipts_in (drop from g) ≡ receipts_in (drop from h) + receipts_in more
receipts_more from g h more is within =
    ap (λ (es : List Entry). receipts_in (drop from es)) is
    ∙ ap receipts_in (drop-append-le from h more within)
    ∙ ap (λ (es : List Entry). length es) (filter-append has_receipt (drop from h) more)
    ∙ length-append (filter has_receipt (drop from h)) (filter has_receipt more)

pub before_same : (from : ℕ) (g h more : List Entry) → g ≡ h ++ more → from ≤ length h → take from g ≡ take from h
before_same from g h more is within = ap (λ (es : List Entry). take from es) is ∙ take-append-le from h more within

-- cuts have none
pub receipts_behind_cuts : (subs : List ℕ) (e : Entry) → receipts_in (map Cut subs ++ e ∷ []) ≡ receipts_in (e ∷ [])
receipts_behind_cuts [] e = refl
receipts_behind_cuts (sub ∷ subs) e = receipts_behind_cuts subs e
