use Rattle.std.proofs.Common.{arith}
use Rattle.rule_table.proofs.NarrowLaws.{cut_above}
use Rattle.rule_table.proofs.wide.last_of_class.Goals as goal

pub returns-then-place-cuts-clause-below : goal.returns-then-place-cuts-clause-below
returns-then-place-cuts-clause-below c = cut_above c.args.cuts.now c.args.address c.args.class c.from-place.result c.requires.ascending c.requires.class (omega (arith, c.from-place.ensures)) c.if-place-cuts.true
