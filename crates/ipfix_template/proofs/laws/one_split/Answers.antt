use Rattle.ipfix_template.proofs.SplitLaws as splits
use Rattle.ipfix_template.proofs.laws.one_split.Goals as goal

pub returns : goal.returns
returns c = splits.one_split
