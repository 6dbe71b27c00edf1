use Rattle.std.proofs.Common.{◌≡◌, ◌++◌, take}
use Rattle.std.specs.Prelude.{string_bytes}
use Rattle.ipmd_verify.specs.Verifying.{audit_lines}
use Rattle.ipmd_verify.proofs.telling.put_lines.Given as goal

abbrev pub invariant-entries : goal.invariant-entries
invariant-entries l = string_bytes l.text ≡ string_bytes l.fn.text ++ audit_lines (take l.entry-index l.entries)
