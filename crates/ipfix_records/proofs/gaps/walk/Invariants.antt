use Rattle.ipfix_records.specs.Gaps.{walk_at}
use Rattle.ipfix_records.proofs.GapLaws.{IsWalked}
use Rattle.ipfix_records.proofs.gaps.walk.Given as goal

abbrev pub invariant-loop-gap : goal.invariant-loop-gap
invariant-loop-gap l = IsWalked l.gaps l.octets l.gap-index l.used l.is_shortest (walk_at l.first l.gaps l.octets)
