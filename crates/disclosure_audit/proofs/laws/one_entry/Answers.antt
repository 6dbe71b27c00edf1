use Rattle.disclosure_audit.proofs.LineLaws.{one_entry}
use Rattle.disclosure_audit.proofs.laws.one_entry.Goals as goal

pub returns : goal.returns
returns c = one_entry
