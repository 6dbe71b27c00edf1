use Rattle.std.proofs.Common.{rules, ap, ◌∙◌}
use Rattle.indexmap.proofs.CallerLemmas.{filter-RetainsPairs}
use Rattle.flow_aggregate.specs.Running.{Entries, sums_at}
use Rattle.flow_aggregate.proofs.EntryLaws.{look_kept}
use Rattle.flow_aggregate.proofs.AgendaLaws.{closes_all}
use Rattle.flow_aggregate.proofs.listed.close_many.Goals as goal

pub returns : goal.returns
returns c =
    let is = filter-RetainsPairs _ _ _ (λ k v b w g call. search rules) _ _ c.retain.ensures.filtered in
    closes_all c.args.t c.args.groups.now.entries c.retain.new.self.entries c.args.agenda.now.by_time.entries c.drop_due.new.self.by_time.entries c.requires c.drop_due.ensures c.retain.ensures.unique
    (λ g. ap (λ (ds : Entries). sums_at ds g) is ∙ look_kept c.args.t c.args.groups.now.entries g)
