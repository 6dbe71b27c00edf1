use Rattle.std.proofs.Common.{arith, inr, ◌+◌, ◌-◌, ◌/◌}
use Rattle.rule_table.proofs.narrow.whole_blocks.Goals as goal

pub returns-else-count-le-BLOCK-clause-whole : goal.returns-else-count-le-BLOCK-clause-whole
returns-else-count-le-BLOCK-clause-whole c = inr ((c.args.count + 256 - 1) / 256, omega (arith, c.if-count-le-BLOCK.false), omega arith)
