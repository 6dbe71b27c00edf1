use Rattle.std.proofs.Common.{◌≡◌, ◌++◌, map, drop, None}
use Rattle.prepared_message.specs.Uses.{known_in, used_by}
use Rattle.prepared_message.specs.Seen.{used_pair}
use Rattle.prepared_message.proofs.used.used_by.Given as goal

abbrev pub invariant-loop-item : goal.invariant-loop-item
invariant-loop-item l =
    map used_pair l.uses.items ++ used_by (known_in l.domain l.templates) l.before (drop l.item-index l.said) ≡ used_by (known_in l.domain l.templates) None l.said
