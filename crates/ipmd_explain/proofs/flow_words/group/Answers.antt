use Rattle.std.proofs.Common.{arith}
use Rattle.flow_prefix.proofs.PowerLaws.{power_up, power_positive}
use Rattle.ipmd_explain.proofs.flow_words.group.Goals as goal

pub pow-requires : goal.pow-requires
pow-requires c = let up = power_up 65536 (omega arith) c.args.place 7 (omega arith) in omega (arith, up)

pub nonzero_div-result : goal.nonzero_div-result
nonzero_div-result c = omega (arith, power_positive 65536 c.args.place (omega arith))
