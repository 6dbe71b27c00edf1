use Rattle.std.proofs.Common.{rules, ◌∙◌}
use Rattle.journal_files.proofs.Gathered.{skips_more}
use Rattle.journal_files.proofs.gathering.skip.Goals as goal

pub pieces-preserved : goal.pieces-preserved
pieces-preserved g c = record {
  skips = skips_more c.args.count c.pieces.left c.in-Ok.read _ _ _ c.read.new.buffer c.pieces.invariant.skips (search rules) c.in-Ok.ensures.bound.0 c.in-Ok.ensures.octets.0;
  same = c.in-Ok.ensures.failed ∙ c.pieces.invariant.same;
}
