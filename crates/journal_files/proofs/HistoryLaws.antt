-- The octets of a history, entry by entry.
use Rattle.std.proofs.Common.{◌≡◌, ℕ, ◌+◌, ◌≤◌, inl, inr, List, [], ◌∷◌, ◌++◌, length, take, Option, Some, None, refl, sym, ap, ◌∙◌, append_assoc, append-nil}
use Rattle.std.specs.Prelude.{slice_get}
use Rattle.std.specs.Option.{option_copied}
use Rattle.std.specs.Borrow.{Bor}
use Rattle.std.proofs.lemmas.List.{take_more, take_all}
use Rattle.std.proofs.lemmas.Option.{slice_get_within, get_or_from_slice_get, slice_get-get_or}
use Rattle.std.proofs.lemmas.Bool.{cases_lt}
use Rattle.event_journal.specs.declared.entry.Entry.TheVariants.{Open}
use Rattle.std.proofs.lemmas.Grind.{flat_map-append}
use Rattle.event_journal.specs.declared.entry.Entry.{Entry}
use Rattle.journal_files.specs.Format.{octets_of, history_in_octets}

-- one entry more
pub history_more : (h : List Entry) (entry : Entry) → history_in_octets (h ++ entry ∷ []) ≡ history_in_octets h ++ octets_of entry
history_more h entry = flat_map-append octets_of h (entry ∷ []) ∙ ap (λ (t : List ℕ). history_in_octets h ++ t) (append-nil (octets_of entry))

-- one entry more of the first ones of a history
pub written_more : (file now head : List ℕ) (h : List Entry) (n : ℕ) (entry : Entry) → slice_get h n ≡ Some entry → file ≡ head ++ history_in_octets (take n h) → now ≡ file ++ octets_of entry → now ≡ head ++ history_in_octets (take (n + 1) h)
written_more file now head h n entry at before more =
    let first : take (n + 1) h ≡ take n h ++ entry ∷ [] = take_more h n entry (slice_get_within h n entry at) ∙ ap (λ e. take n h ++ e ∷ []) (get_or_from_slice_get h n entry entry at) in
    more ∙ ap (λ (t : List ℕ). t ++ octets_of entry) before ∙ append_assoc head (history_in_octets (take n h)) (octets_of entry)
    ∙ ap (λ (t : List ℕ). head ++ t) (sym (history_more (take n h) entry)) ∙ ap (λ t. head ++ history_in_octets t) (sym first)

-- no entry was found at a place
no_entry : (r : Option (Bor Entry)) (o : Option Entry) → ((x : Bor Entry) → r ≡ Some x → ⊥) → option_copied r ≡ o → o ≡ None
no_entry None o none is = sym is
no_entry (Some x) o none is = absurd (none x refl)

some_or_none : (x : Entry) (o : Option Entry) → o ≡ Some x → o ≡ None → ⊥
some_or_none x o there none = cc

past_end : (h : List Entry) (n : ℕ) → slice_get h n ≡ None → length h ≤ n
past_end h n none =
    elim (cases_lt n (length h)) [
      | inl low ↦ absurd (some_or_none _ _ (slice_get-get_or h n (Open 0) low) none)
      | inr past ↦ past
    ]

-- all entries
pub written_all : (file head : List ℕ) (h : List Entry) (n : ℕ) (r : Option (Bor Entry)) → ((x : Bor Entry) → r ≡ Some x → ⊥) → option_copied r ≡ slice_get h n → file ≡ head ++ history_in_octets (take n h) → file ≡ head ++ history_in_octets h
written_all file head h n r none at before =
    before ∙ ap (λ t. head ++ history_in_octets t) (take_all n h (past_end h n (no_entry r (slice_get h n) none at)))
