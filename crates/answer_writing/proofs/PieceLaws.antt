-- What the pieces of a line are together.
use Rattle.std.proofs.Common.{◌≡◌, ℕ, List, [], ◌∷◌, ◌++◌, sym, ap, ◌∙◌, append_assoc}
use Rattle.std.specs.List.{flat_map, join_with_byte}
use Rattle.std.proofs.lemmas.List.Concat.{flat_map-cons}
use Rattle.std.specs.Fmt.{decimal}
use Rattle.disclosure_audit.specs.declared.entry.RemovedField.{RemovedField}
use Rattle.disclosure_audit.specs.declared.entry.What.{What}
use Rattle.disclosure_audit.specs.declared.entry.What.TheVariants.{Withheld, Aggregated, Removed, Cut}
use Rattle.disclosure_audit.specs.declared.entry.AuditEntry.{AuditEntry}
use Rattle.disclosure_audit.specs.Lines.{audit_line, what_words}
use Rattle.answer_writing.specs.Pieces.{rest_of_line, rest_of_lines}

-- what was kept back stands behind three numbers
pub line_is : (position index sub : ℕ) (what : What) → join_with_byte 32 (decimal position ∷ decimal index ∷ decimal sub ∷ what_words what) ++ 10 ∷ []
    ≡ decimal position ++ 32 ∷ (decimal index ++ 32 ∷ (decimal sub ++ 32 ∷ (join_with_byte 32 (what_words what) ++ 10 ∷ [])))
line_is position index sub (Withheld rule reason) = simp append_assoc
line_is position index sub (Aggregated rule) = simp append_assoc
line_is position index sub (Removed fields) = simp append_assoc
line_is position index sub Cut = simp append_assoc

-- the first piece of an entry's line, before those of the others
pub entry_first : (entry : AuditEntry) (whole entries : List AuditEntry) (fields : List RemovedField) (old new : List ℕ) → whole ≡ entry ∷ entries → new ++ rest_of_line fields ≡ old ++ audit_line entry
    → new ++ rest_of_lines fields entries ≡ old ++ flat_map audit_line whole
entry_first entry whole entries fields old new is put =
    sym (append_assoc new (rest_of_line fields) (flat_map audit_line entries)) ∙ ap (λ t. t ++ flat_map audit_line entries) put ∙ append_assoc old (audit_line entry) (flat_map audit_line entries)
    ∙ ap (λ t. old ++ t) (sym (flat_map-cons audit_line entry entries)) ∙ ap (λ es. old ++ flat_map audit_line es) (sym is)
