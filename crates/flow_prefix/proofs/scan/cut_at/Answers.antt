use Rattle.std.proofs.Common.{arith}
use Rattle.flow_prefix.proofs.ScanLaws.{cut_at-found, cut_at-none}
use Rattle.flow_prefix.proofs.scan.cut_at.Goals as goal

pub returns-in_err-at : goal.returns-in_err-at
returns-in_err-at c = let none = cut_at-none c.args.byte c.args.text.now (grind arith) in grind (arith, none)

pub returns : goal.returns
returns c = cut_at-found c.args.byte c.args.text.now c.in_ok-at.at (grind arith)
