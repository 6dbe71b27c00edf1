use Rattle.journal_files.proofs.FileLaws.{file_written_back}
use Rattle.journal_files.proofs.laws.file_written_back.Goals as goal

pub returns : goal.returns
returns c = file_written_back
