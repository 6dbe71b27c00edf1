use Rattle.std.proofs.Common.{◌≡◌, ◌≤◌, length}
use Rattle.ipfix_template.specs.Sequence.{read_all, with_front}
use Rattle.ipfix_message.specs.Reading.{set_front}
use Rattle.ipfix_message.proofs.sets.put_sets.Given as goal

abbrev pub invariant-sets : goal.invariant-sets
invariant-sets l = record {
  left : length l.rest ≤ length l.octets;
  within : length l.rest ≤ l.total;
  read : with_front l.items.items (read_all (set_front l.total) l.rest) ≡ with_front l.fn.items.items (read_all (set_front l.total) l.octets);
}

abbrev pub decreases-sets : goal.decreases-sets
decreases-sets l = length l.rest
