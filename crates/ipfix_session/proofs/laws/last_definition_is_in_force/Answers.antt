use Rattle.ipfix_session.proofs.InForceLaws.{found, only}
use Rattle.ipfix_session.proofs.laws.last_definition_is_in_force.Goals as goal

pub returns : goal.returns
returns c = λ id items t. (found id items t, only id items t)
