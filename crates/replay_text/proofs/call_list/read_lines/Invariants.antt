use Rattle.std.proofs.Common.{◌≡◌, ◌+◌, ◌≤◌, length}
use denote.Shadow.{shadow}
use denote.Text.{Utf8}
use Rattle.policy_text.specs.Words.{lines_of}
use Rattle.replay_text.specs.Lists.{asked_calls, calls_of_lines, calls_of_text}
use Rattle.replay_text.proofs.call_list.read_lines.Given as goal

abbrev pub invariant-lines : goal.invariant-lines
invariant-lines l = record {
  reading : calls_of_lines l.started (asked_calls l.list) l.number (lines_of l.rest) ≡ calls_of_text l.text;
  text : shadow (Utf8 l.rest);
  count : l.number + length l.rest ≤ length l.text + 1;
}

abbrev pub decreases-lines : goal.decreases-lines
decreases-lines l = length l.rest
