use Rattle.std.proofs.Common.{refl, arith}
use Rattle.mediator_shares.proofs.JudgeLaws.{more_judges}
use Rattle.mediator_shares.proofs.in_force.InForce.judges_anew.Goals as goal

pub served-preserved : goal.served-preserved
served-preserved c =
    more_judges c.served.judges c.add.new.self c.args.self.now c.args.domain c.args.served.now c.served.who-index _ _ c.served.invariant.0 c.served.invariant.1 c.served.invariant.2 c.served.invariant.3 (omega (arith, c.served-test.true)) refl c.in_ok-add.ensures
