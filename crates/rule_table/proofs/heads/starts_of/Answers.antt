use Rattle.std.proofs.Common.{◌≡◌, ℕ, ◌*◌, arith, subst}
use Rattle.rule_table.proofs.NarrowLaws.{point_of}
use Rattle.rule_table.proofs.HeadLaws.{AreSome, one_more_start, all_starts}
use Rattle.rule_table.proofs.heads.starts_of.Goals as goal

pub count_on-below-requires-clause-before : goal.count_on-below-requires-clause-before
count_on-below-requires-clause-before c = λ k l.
    omega (arith, (point_of c.args.cuts.now (c.loop-head.head * c.args.unit) c.requires.ascending).below k (omega (arith, l, c.count_on-low.ensures.class)))

pub loop-head-preserved : goal.loop-head-preserved
loop-head-preserved c =
    one_more_start c.args.cuts.now c.args.unit c.loop-head.head c.loop-head.below c.count_on-low.result c.count_on-below.result c.start_of.result c.loop-head.starts.items c.push.new.self.items
    c.requires.ascending c.requires.unit.0 c.loop-head.invariant c.count_on-low.ensures.class c.count_on-below.ensures.class c.start_of.ensures.half c.start_of.ensures.sure c.in_ok-push.ensures.items

pub returns : goal.returns
returns c =
    let end : c.loop-head.head ≡ c.args.heads = omega (arith, c.loop-head-test.false, c.loop-head.auto.head-end) in
    all_starts c.args.cuts.now c.args.unit c.args.heads c.loop-head.below c.start_of-2.result c.loop-head.starts.items c.push-2.new.self.items
    (subst (λ (n : ℕ). AreSome c.args.cuts.now c.args.unit n c.loop-head.below c.loop-head.starts.items) end c.loop-head.invariant) c.start_of-2.ensures.half c.in_ok-push-2.ensures.items
