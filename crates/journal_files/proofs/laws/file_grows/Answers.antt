use Rattle.journal_files.proofs.HistoryLaws.{history_more}
use Rattle.journal_files.proofs.laws.file_grows.Goals as goal

pub returns : goal.returns
returns c = history_more
