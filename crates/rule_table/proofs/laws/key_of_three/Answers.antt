use Rattle.rule_table.proofs.ClassLaws.{key_of_three}
use Rattle.rule_table.proofs.laws.key_of_three.Goals as goal

pub returns : goal.returns
returns c = key_of_three
