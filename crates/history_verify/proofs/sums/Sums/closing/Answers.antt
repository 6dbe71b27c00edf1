use Rattle.std.proofs.Common.{ap, arith, map, ◌∙◌}
use Rattle.std.proofs.lemmas.List.{take_all}
use Rattle.flow_aggregate.specs.Closing.{closed_by}
use Rattle.mediator_history.specs.Counting.{running}
use Rattle.mediator_tables.specs.SubscriptionTable.{shown}
use Rattle.mediator_tables.specs.declared.ids.SubId.{SubId}
use Rattle.history_verify.proofs.SumLaws.{closing_by, all_closing}
use Rattle.history_verify.proofs.sums.Sums.closing.Goals as goal

pub returns : goal.returns
returns c = λ h so.
    all_closing c.args.self.now c.args.t (map shown c.subs.shares.items) (map (λ sub. sub.0) c.in_ok-subs.subs.items) h c.in_ok-subs.ensures.numbers c.in_ok-subs.ensures.once
    (c.subs.invariant h so
    ∙ ap (map (λ (sub : SubId). (sub.0, closed_by c.args.t (running sub.0 h)))) (take_all c.subs.sub-index c.deref-sub-items.result.now (omega (arith, c.subs-test.false)) ∙ c.deref-sub-items.ensures.value)
    ∙ closing_by (λ (sub : SubId). sub.0) (λ n. closed_by c.args.t (running n h)) c.in_ok-subs.subs.items) so
