use Rattle.admin_text.proofs.LineLaws.{one_meaning}
use Rattle.admin_text.proofs.laws.one_meaning.Goals as goal

pub returns : goal.returns
returns c = one_meaning
