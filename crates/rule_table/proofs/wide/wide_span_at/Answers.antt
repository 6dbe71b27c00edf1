use Rattle.std.proofs.Common.{arith, nat_lt}
use Rattle.std.proofs.lemmas.List.Sums.{count_by-le-length}
use Rattle.rule_table.proofs.NarrowLaws.{same_class}
use Rattle.rule_table.proofs.wide.wide_span_at.Goals as goal

pub returns-clause-span : goal.returns-clause-span
returns-clause-span c = record {
  few = omega (arith, c.requires.class, c.requires.few, count_by-le-length (λ cut. nat_lt cut c.args.address) c.args.cuts.now);
  each = λ other above below. same_class c.args.cuts.now c.args.address other c.args.class c.requires.class
      (λ k l. c.first_of_class.ensures.each k other l above) (λ k l m. c.last_of_class.ensures.each k other l m below);
}
