use Rattle.ipfix_session.proofs.RecordLaws as records
use Rattle.ipfix_session.proofs.laws.records_are_read.Goals as goal

pub returns-clause-found : goal.returns-clause-found
returns-clause-found c = λ t octets rows accepted fits e. records.found t accepted octets fits rows e

pub returns-clause-only : goal.returns-clause-only
returns-clause-only c = λ t octets rows accepted are. records.only t accepted octets rows are
