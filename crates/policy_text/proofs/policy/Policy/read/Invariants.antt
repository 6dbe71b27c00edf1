use Rattle.std.proofs.Common.{◌≡◌, ◌+◌, ◌≤◌, length}
use Rattle.policy_text.specs.Words.{lines_of}
use Rattle.policy_text.specs.Parsing.{read_lines, policy_of}
use Rattle.policy_text.specs.Memory.{TakesMemory}
use Rattle.policy_text.proofs.MemoryLaws.{SomeTakes}
use Rattle.policy_text.proofs.policy.Policy.read.Given as goal

abbrev pub invariant-lines : goal.invariant-lines
invariant-lines l = record {
  reading : read_lines l.policy l.number (lines_of l.rest) ≡ policy_of l.text;
  taken : SomeTakes l.policy (lines_of l.rest) → TakesMemory l.text;
  count : l.number + length l.rest ≤ length l.text + 1;
}

abbrev pub decreases-lines : goal.decreases-lines
decreases-lines l = length l.rest
