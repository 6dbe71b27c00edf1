use Rattle.std.proofs.Common.{take}
use Rattle.ipmd_run_journals.specs.Numbering.{IsAbove}
use Rattle.ipmd_run_journals.proofs.numbering.next_number.Given as goal

abbrev pub invariant-names : goal.invariant-names
invariant-names l = IsAbove l.base (take l.name-index l.names) l.next
