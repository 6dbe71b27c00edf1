use Rattle.ipfix_session.proofs.ContentLaws.{contents_after-append, contents_after-one}
use Rattle.ipfix_session.proofs.laws.items_join.Goals as goal

pub returns-clause-joined : goal.returns-clause-joined
returns-clause-joined c = contents_after-append

pub returns-clause-step : goal.returns-clause-step
returns-clause-step c = contents_after-one
