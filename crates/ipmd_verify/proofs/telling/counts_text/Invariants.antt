use Rattle.std.proofs.Common.{◌≡◌, take}
use Rattle.std.specs.Prelude.{string_bytes}
use Rattle.ipmd_verify.specs.Verifying.{count_lines}
use Rattle.ipmd_verify.proofs.telling.counts_text.Given as goal

abbrev pub invariant-counts : goal.invariant-counts
invariant-counts l = string_bytes l.text ≡ count_lines (take l.count-index l.counts)
