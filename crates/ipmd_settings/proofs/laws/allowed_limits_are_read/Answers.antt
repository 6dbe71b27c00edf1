use Rattle.ipmd_settings.proofs.LimitLaws.{allowed_limits_are_read}
use Rattle.ipmd_settings.proofs.laws.allowed_limits_are_read.Goals as goal

pub returns : goal.returns
returns c = allowed_limits_are_read
