use Rattle.std.proofs.lemmas.List.{take_rest}
use Rattle.rule_table.proofs.IndexLaws.{from_bound}
use Rattle.rule_table.proofs.index.from_bound.Goals as goal

pub returns-clause-kept : goal.returns-clause-kept
returns-clause-kept c = λ entry up there.
    rw (take_rest c.args.entries.now c.count_below.result) (from_bound c.args.entries.now c.count_below.result c.args.bound entry c.count_below.ensures.below up there)
