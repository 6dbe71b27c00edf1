use Rattle.ipfix_session.proofs.MeaningLaws.{records_after-append, records_after-one}
use Rattle.ipfix_session.proofs.laws.messages_join.Goals as goal

pub returns-clause-joined : goal.returns-clause-joined
returns-clause-joined c = records_after-append

pub returns-clause-step : goal.returns-clause-step
returns-clause-step c = records_after-one
