use Rattle.std.specs.Arc.{arc_value}
use Rattle.ipfix_session.proofs.SetSteps.{Rewrites}
use Rattle.ipfix_session.proofs.data_set.written_anew.Given as goal

abbrev pub invariant-loop-end : goal.invariant-loop-end
invariant-loop-end l = Rewrites (arc_value l.template) l.content l.found.ends.items l.octets.items l.written.items l.end-index l.start
