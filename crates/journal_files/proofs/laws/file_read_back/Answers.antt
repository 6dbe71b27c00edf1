use Rattle.journal_files.proofs.FileLaws.{file_read_back}
use Rattle.journal_files.proofs.laws.file_read_back.Goals as goal

pub returns : goal.returns
returns c = file_read_back
