use Rattle.std.proofs.Common.{arith}
use Rattle.rule_table.proofs.IndexLaws.{holds_more, holds_all}
use Rattle.rule_table.proofs.index.gathered.Goals as goal

pub loop-mark-preserved : goal.loop-mark-preserved
loop-mark-preserved c = holds_more c.args.entries.now c.args.marks.now c.under.result.now _ _ c.loop-mark.mark-index c.in_ok-put_places.ensures c.loop-mark.invariant c.under.ensures

pub returns : goal.returns
returns c = holds_all c.args.entries.now c.args.marks.now c.loop-mark.places.items c.loop-mark.mark-index (omega arith) c.loop-mark.invariant
