use Rattle.journal_files.proofs.EntryRead.{entry_read_back}
use Rattle.journal_files.proofs.laws.entry_read_back.Goals as goal

pub returns : goal.returns
returns c = entry_read_back
