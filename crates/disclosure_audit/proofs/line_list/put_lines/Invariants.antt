use Rattle.std.proofs.Common.{◌≡◌, ◌++◌, take}
use Rattle.std.specs.Prelude.{string_bytes}
use Rattle.std.specs.List.{flat_map}
use Rattle.disclosure_audit.specs.Lines.{audit_line, line_front, line_tail}
use Rattle.disclosure_audit.proofs.line_list.put_lines.Given as goal

abbrev pub invariant-entries : goal.invariant-entries
invariant-entries l =
    (string_bytes l.front ≡ line_front l.before)
    × (string_bytes l.tail ≡ line_tail l.before)
    × (string_bytes l.other_tail ≡ line_tail l.other)
    × (l.text.items ≡ l.initial.text.items ++ flat_map audit_line (take l.entry-index l.entries))
