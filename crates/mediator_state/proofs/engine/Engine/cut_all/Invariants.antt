use Rattle.std.proofs.Common.{length}
use Rattle.mediator_state.proofs.CutRows.{IsCutting}
use Rattle.mediator_state.proofs.engine.Engine.cut_all.Given as goal

-- the first ones are cut
abbrev pub invariant-cuts : goal.invariant-cuts
invariant-cuts g l = IsCutting l.fn.self l.self l.fn.position (length l.numbers) l.place l.numbers
