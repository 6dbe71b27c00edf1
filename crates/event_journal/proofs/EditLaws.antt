-- The text of the last edit, from the last entry to the first.
use Rattle.std.proofs.Common.{◌≡◌, ℕ, ◌+◌, ◌-◌, ◌<◌, ◌≤◌, List, [], ◌∷◌, ◌++◌, length, take, get_or, Option, Some, None, refl, sym, ap, ◌∙◌, arith}
use Rattle.std.specs.Prelude.{unwrap_or}
use Rattle.std.specs.Option.{option_copied}
use Rattle.std.specs.Borrow.{Bor}
use Rattle.std.proofs.lemmas.List.{take_more}
use Rattle.sequences.proofs.BeforeLaws.{last_of-push}
use Rattle.event_journal.specs.declared.entry.Entry.{Entry}
use Rattle.event_journal.specs.declared.entry.Entry.TheVariants.{Open, Close, Message, Edit, Subscribe, Unsubscribe, Advance, Cut}
use Rattle.event_journal.specs.LastEdit.{edit_text, edit_at, last_edit}

-- what the last entry says of it
at_edit : (e : Entry) (text : List ℕ) (before : Option (List ℕ)) → edit_text e ≡ Some text → unwrap_or (edit_at e) before ≡ Some text
at_edit (Edit t) text before is = is
at_edit (Open session) text before is = cc
at_edit (Close session) text before is = cc
at_edit (Message session number octets) text before is = cc
at_edit (Subscribe sub name) text before is = cc
at_edit (Unsubscribe sub) text before is = cc
at_edit (Advance t) text before is = cc
at_edit (Cut sub) text before is = cc

at_other : (e : Entry) (before : Option (List ℕ)) → edit_text e ≡ None → unwrap_or (edit_at e) before ≡ before
at_other (Edit t) before is = cc
at_other (Open session) before is = refl
at_other (Close session) before is = refl
at_other (Message session number octets) before is = refl
at_other (Subscribe sub name) before is = refl
at_other (Unsubscribe sub) before is = refl
at_other (Advance t) before is = refl
at_other (Cut sub) before is = refl

-- the first entries are those before the last of them, and that one
last_at : (h : List Entry) (left : ℕ) (e : Entry) → 0 < left → left ≤ length h → e ≡ get_or h (left - 1) e → last_edit (take left h) ≡ unwrap_or (edit_at e) (last_edit (take (left - 1) h))
last_at h left e some within at =
    let low : left - 1 < length h = omega (arith, some, within) in
    let next : left ≡ left - 1 + 1 = omega (arith, some) in
    ap (λ n. last_edit (take n h)) next ∙ ap last_edit (take_more h (left - 1) e low ∙ ap (λ x. take (left - 1) h ++ x ∷ []) (sym at)) ∙ last_of-push edit_at None (take (left - 1) h) e

-- where the last of them is an edit
pub edit_found : (h : List Entry) (left : ℕ) (e : Entry) (text : List ℕ) → 0 < left → left ≤ length h → e ≡ get_or h (left - 1) e → last_edit (take left h) ≡ last_edit h → Some text ≡ edit_text e → Some text ≡ last_edit h
edit_found h left e text some within at same is =
    sym (at_edit e text (last_edit (take (left - 1) h)) (sym is)) ∙ sym (last_at h left e some within at) ∙ same

-- no text was found
no_text : (r : Option (Bor (List ℕ))) (o : Option (List ℕ)) → ((x : Bor (List ℕ)) → r ≡ Some x → ⊥) → option_copied r ≡ o → o ≡ None
no_text None o none is = sym is
no_text (Some x) o none is = absurd (none x refl)

-- where it is another
pub no_edit : (h : List Entry) (left : ℕ) (e : Entry) (r : Option (Bor (List ℕ))) → 0 < left → left ≤ length h → e ≡ get_or h (left - 1) e → last_edit (take left h) ≡ last_edit h → ((x : Bor (List ℕ)) → r ≡ Some x → ⊥) → option_copied r ≡ edit_text e → last_edit (take (left - 1) h) ≡ last_edit h
no_edit h left e r some within at same none is =
    sym (at_other e (last_edit (take (left - 1) h)) (no_text r (edit_text e) none is)) ∙ sym (last_at h left e some within at) ∙ same
