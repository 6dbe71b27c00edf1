use Rattle.std.proofs.Common.{arith, subst, sym, ◌∙◌}
use Rattle.rule_table.specs.Near.{HasBoth, IsNear, ShowsBoth}
use Rattle.rule_table.proofs.NearLaws.{has_both, alike_more}
use Rattle.rule_table.proofs.keys.RecentClasses.same_until.Goals as goal

pub has-requires : goal.has-requires
has-requires c =
    subst (λ r. HasBoth r c.in-Some.near) (sym c.view.ensures)
    (has_both c.deref.result.now c.args.run.now c.view-first.result c.args.from c.records.to c.in-Some.near c.in-Some.ensures c.view-first.ensures c.len.ensures.kept (omega (arith, c.records-test.true, c.len.ensures.value)))

pub records-preserved : goal.records-preserved
records-preserved c =
    alike_more c.args.self.now c.args.run.now c.view-first.result c.args.from c.records.to c.in-Some.near c.records.invariant
    (subst (λ cuts. IsNear cuts c.view-first.result c.in-Some.near) (c.deref.ensures ∙ c.self.view_is) c.in-Some.ensures) c.view-first.ensures c.len.ensures.kept (omega (arith, c.records-test.true, c.len.ensures.value))
    (subst (λ r. ShowsBoth r c.in-Some.near) c.view.ensures (c.has.ensures c.if-has.true))
