use Rattle.std.proofs.Common.{◌≡◌, take}
use Rattle.std.specs.Prelude.{string_bytes}
use Rattle.ipmd_explain.specs.Standing.{explained_lines}
use Rattle.ipmd_explain.proofs.explainer.Explainer.lines.Given as goal

abbrev pub invariant-records : goal.invariant-records
invariant-records l = string_bytes l.text ≡ explained_lines l.self l.domain (take l.place l.records)
