use Rattle.std.proofs.Common.{refl, sym}
use Rattle.rule_table.proofs.keys.wide_class_by.Goals as goal

pub returns-then-has-clause-class : goal.returns-then-has-clause-class
returns-then-has-clause-class c = let among = c.if-has.ensures refl in sym (c.requires.each c.args.address among.above among.below)
