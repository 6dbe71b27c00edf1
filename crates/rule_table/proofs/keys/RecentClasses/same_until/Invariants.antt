use Rattle.std.proofs.Common.{◌-◌, length}
use Rattle.rule_table.proofs.NearLaws.{GoAlike}
use Rattle.rule_table.proofs.keys.RecentClasses.same_until.Given as goal

abbrev pub invariant-records : goal.invariant-records
invariant-records l = GoAlike l.self l.run l.from l.to

abbrev pub decreases-records : goal.decreases-records
decreases-records l = length l.run.texts - l.to
