use Rattle.std.proofs.Common.{ℕ, ◌+◌, ap, ◌∙◌}
use Rattle.rule_table.proofs.NarrowLaws.{class_in_part, part_between}
use Rattle.rule_table.proofs.classes.count_within.Goals as goal

pub returns-clause-class : goal.returns-clause-class
returns-clause-class c =
    ap (λ (n : ℕ). c.args.low + n) c.count_below.ensures.class
    ∙ class_in_part c.args.cuts.now c.args.address c.args.low c.min-end.result c.requires.ascending
    (part_between c.args.cuts.now c.args.address c.args.low c.args.high c.min-end.result c.requires.ascending c.requires.low c.requires.high c.min-end.ensures)
