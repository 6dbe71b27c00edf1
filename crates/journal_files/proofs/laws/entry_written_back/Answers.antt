use Rattle.journal_files.proofs.EntryWritten.{entry_written_back}
use Rattle.journal_files.proofs.laws.entry_written_back.Goals as goal

pub returns : goal.returns
returns c = entry_written_back
