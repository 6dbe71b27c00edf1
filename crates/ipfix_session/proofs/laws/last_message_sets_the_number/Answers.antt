use Rattle.ipfix_session.proofs.NumberLaws.{found, only}
use Rattle.ipfix_session.proofs.laws.last_message_sets_the_number.Goals as goal

pub returns : goal.returns
returns c = λ domain messages number. (found domain messages number, only domain messages number)
