use Rattle.std.proofs.Common.{◌≡◌, ◌++◌, take}
use Rattle.std.specs.List.{flat_map}
use Rattle.std.specs.String.{string_bytes}
use Rattle.disclosure_audit.specs.Lines.{audit_line}
use Rattle.replay_text.proofs.answer.put_entries.Given as goal

abbrev pub invariant-entries : goal.invariant-entries
invariant-entries l = string_bytes l.text ≡ string_bytes l.initial.text ++ flat_map audit_line (take l.entry-index l.entries)
