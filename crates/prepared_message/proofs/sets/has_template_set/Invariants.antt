use Rattle.std.proofs.Common.{length}
use Rattle.prepared_message.proofs.SetLaws.{IsLeft}
use Rattle.prepared_message.proofs.sets.has_template_set.Given as goal

abbrev pub invariant-sets : goal.invariant-sets
invariant-sets l = IsLeft l.rest l.message

abbrev pub decreases-sets : goal.decreases-sets
decreases-sets l = length l.rest
