use Rattle.rule_table.proofs.ClassLaws.{same_key}
use Rattle.rule_table.proofs.CoverLaws.{same_covers}
use Rattle.rule_table.proofs.laws.same_keys.Goals as goal

pub returns-clause-inside : goal.returns-clause-inside
returns-clause-inside c = same_key

pub returns-clause-covers : goal.returns-clause-covers
returns-clause-covers c = same_covers
