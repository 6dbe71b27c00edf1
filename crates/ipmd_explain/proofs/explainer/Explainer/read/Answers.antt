use Rattle.std.proofs.Common.{arith}
use Rattle.ipmd_explain.proofs.StandingLaws.{number_few}
use Rattle.ipmd_explain.proofs.explainer.Explainer.read.Goals as goal

pub returns-then-number-eq18446744073709551615-clause-none : goal.returns-then-number-eq18446744073709551615-clause-none
returns-then-number-eq18446744073709551615-clause-none c = λ h so short next. absurd (omega (arith, c.if-number-eq18446744073709551615.true, number_few h c.args.session c.args.number c.args.octets.now short next))
