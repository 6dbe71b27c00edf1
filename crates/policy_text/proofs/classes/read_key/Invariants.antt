use Rattle.std.proofs.Common.{◌≡◌, ◌==◌, length}
use Rattle.std.specs.List.{slice_split}
use Rattle.policy_text.specs.Classes.{add_pieces, key_of}
use Rattle.policy_text.proofs.classes.read_key.Given as goal

abbrev pub invariant-pieces : goal.invariant-pieces
invariant-pieces l = add_pieces l.key.items (slice_split (λ c. c == 44) l.rest) ≡ key_of l.word

abbrev pub decreases-pieces : goal.decreases-pieces
decreases-pieces l = length l.rest
