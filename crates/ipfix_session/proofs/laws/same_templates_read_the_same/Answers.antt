use Rattle.ipfix_session.proofs.AgreementLaws.{same_contents, same_message}
use Rattle.ipfix_session.proofs.laws.same_templates_read_the_same.Goals as goal

pub returns-clause-items : goal.returns-clause-items
returns-clause-items c = same_contents

pub returns-clause-messages : goal.returns-clause-messages
returns-clause-messages c = same_message
