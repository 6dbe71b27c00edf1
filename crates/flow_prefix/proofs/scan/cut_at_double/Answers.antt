use Rattle.std.proofs.Common.{sym, arith}
use Rattle.flow_prefix.proofs.ScanLaws.{at_double-at, at_double-none}
use Rattle.flow_prefix.proofs.scan.cut_at_double.Goals as goal

pub returns-then-text-at-eq58-2 : goal.returns-then-text-at-eq58-2
returns-then-text-at-eq58-2 c = at_double-at c.args.text.now c.loop-at.at (omega arith) (omega arith) c.loop-at.invariant c.if-text-at-eq58.true c.if-text-at-eq58-2.true

pub returns : goal.returns
returns c = sym (at_double-none c.args.text.now (λ k low. c.loop-at.invariant k (omega arith)))
