use Rattle.std.proofs.Common.{ℕ, List, map, take}
use Rattle.ipfix_session.specs.Standing.{StandsFor}
use Rattle.prepared_message.specs.Uses.{AreUsesInForce}
use Rattle.prepared_message.specs.Seen.{used_pair}
use Rattle.prepared_message.proofs.used.are_in_force.Given as goal

abbrev pub invariant-loop-used : goal.invariant-loop-used
invariant-loop-used l = (older : List (List ℕ)) → StandsFor l.session older → AreUsesInForce l.domain older (map used_pair (take l.used-index l.uses))
