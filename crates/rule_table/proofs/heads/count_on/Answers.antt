use Rattle.std.proofs.Common.{length, arith}
use Rattle.rule_table.proofs.CountLaws.{class_at}
use Rattle.rule_table.proofs.heads.count_on.Goals as goal

pub returns-then-cuts-place-clause-class : goal.returns-then-cuts-place-clause-class
returns-then-cuts-place-clause-class c =
    class_at c.args.cuts.now c.args.address c.loop-place.place (omega arith) c.loop-place.invariant (λ k l m. omega (arith, c.requires.ascending c.loop-place.place k 0 l m, c.if-cuts-place.true))

pub returns-clause-class : goal.returns-clause-class
returns-clause-class c =
    class_at c.args.cuts.now c.args.address (length c.args.cuts.now) (omega arith) (λ k l. c.loop-place.invariant k (omega (arith, l, c.loop-place-test.false))) (λ k l m. absurd (omega (arith, l, m)))
