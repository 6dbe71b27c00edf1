use Rattle.std.proofs.Common.{rules, arith, refl}
use Rattle.flow_aggregate.proofs.AgendaLaws.{found_back, looked_at}
use Rattle.flow_aggregate.proofs.agenda.last_place.Goals as goal

pub returns-then-eq-clause-some : goal.returns-then-eq-clause-some
returns-then-eq-clause-some c =
    found_back c.args.groups.now c.args.group.now c.index-groups-place.result c.loop-behind.behind _ (omega (arith, c.loop-behind-test.true)) refl (search rules) (search rules)

pub loop-behind-preserved : goal.loop-behind-preserved
loop-behind-preserved c =
    looked_at c.args.groups.now c.args.group.now c.index-groups-place.result c.loop-behind.behind _ (omega (arith, c.loop-behind-test.true)) refl (search rules) (search rules) c.loop-behind.invariant
