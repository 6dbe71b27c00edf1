use Rattle.policy_text.proofs.RoundLaws.{reads_back}
use Rattle.policy_text.proofs.laws.print_then_parse.Goals as goal

pub returns : goal.returns
returns c = reads_back
