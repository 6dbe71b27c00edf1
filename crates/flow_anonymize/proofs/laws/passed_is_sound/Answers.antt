use Rattle.flow_anonymize.proofs.PermittedLaws.{passed_is_sound}
use Rattle.flow_anonymize.proofs.laws.passed_is_sound.Goals as goal

pub returns : goal.returns
returns c = passed_is_sound
