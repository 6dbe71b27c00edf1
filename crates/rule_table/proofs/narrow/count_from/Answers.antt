use Rattle.std.proofs.Common.{◌+◌, ap, refl, ◌∙◌}
use Rattle.rule_table.proofs.NarrowLaws.{class_in_block}
use Rattle.rule_table.proofs.narrow.count_from.Goals as goal

pub returns-clause-class : goal.returns-clause-class
returns-clause-class c = ap (λ n. c.args.from + n) c.count_below.ensures.class ∙ class_in_block c.args.cuts.now c.args.address c.args.from (c.args.from + 16) c.requires.ascending c.requires.block refl
