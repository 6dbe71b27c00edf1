use Rattle.std.proofs.Common.{[], refl}
use Rattle.history_verify.proofs.verifier.Verifier.new.Goals as goal

pub returns-clause-fed : goal.returns-clause-fed
returns-clause-fed c = record { front = []; cuts = []; over = record { stands = c.in_ok-new.ensures.stands; count = refl; history_is = refl; spoilt = tt } }
