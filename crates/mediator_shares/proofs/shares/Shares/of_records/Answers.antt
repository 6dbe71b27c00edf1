use Rattle.std.proofs.Common.{arith}
use Rattle.mediator_shares.proofs.AlikeLaws.{alone_leads}
use Rattle.mediator_shares.proofs.shares.Shares.of_records.Goals as goal

pub of_led-requires-clause-led : goal.of_led-requires-clause-led
of_led-requires-clause-led c = alone_leads c.args.in_force.now.policy.rules c.args.served.now (omega (arith, c.if-served-eq1.true))
