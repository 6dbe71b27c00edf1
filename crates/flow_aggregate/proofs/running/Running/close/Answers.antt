use Rattle.std.proofs.Common.{sym, ap, subst}
use Rattle.flow_aggregate.specs.Running.{HeldGroups, SumsStand}
use Rattle.flow_aggregate.proofs.PlaceLaws.{all_counted}
use Rattle.flow_aggregate.proofs.KeptLaws.{closed_stand}
use Rattle.flow_aggregate.proofs.running.Running.close.Goals as goal

pub returns-clause-stays : goal.returns-clause-stays
returns-clause-stays c counted stands =
    let released : SumsStand c.release.new.self.groups counted = subst (λ (h : HeldGroups). SumsStand h.groups counted) (sym c.release.ensures) stands in
    let all = all_counted c.self.inside.counted c.self.inside.groups.entries c.release.new.self c.self.view_is (ap (λ (h : HeldGroups). h.ready) c.release.ensures) in
    closed_stand c.args.t c.len-self-inside.result c.self.inside.groups.entries c.close.new.groups.entries c.close.new.agenda.by_time.entries c.release.new.self counted all c.close.ensures
    c.len-self-inside.ensures.len released
