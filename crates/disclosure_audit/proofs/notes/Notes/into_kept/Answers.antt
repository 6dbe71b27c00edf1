use Rattle.std.proofs.Common.{◌≡◌, List, IfOk, subst}
use Rattle.disclosure_audit.specs.declared.entry.Note.{Note}
use Rattle.disclosure_audit.proofs.NotingLaws.{listed_again}
use Rattle.disclosure_audit.proofs.notes.Notes.into_kept.Goals as goal

pub returns-clause-kept : goal.returns-clause-kept
returns-clause-kept c =
    subst (λ (l : List Note). IfOk c.noted.result (λ notes. notes.items ≡ l))
    (listed_again c.args.self.notes c.into_stretches-stretches.result c.len-2.result c.in_ok-entries.entries.items _ c.into_stretches-stretches.ensures.kept c.len-2.ensures c.in_ok-entries.ensures.items c.in_ok-copy_part.ensures.copied) c.noted.ensures
