use Rattle.flow_prefix.proofs.PrintLaws.{reads_back}
use Rattle.flow_prefix.proofs.laws.print_then_parse.Goals as goal

pub returns : goal.returns
returns c = reads_back
