use Rattle.flow_anonymize.proofs.SecrecyLaws.{denied_is_secret}
use Rattle.flow_anonymize.proofs.laws.denied_is_secret.Goals as goal

pub returns : goal.returns
returns c = denied_is_secret
