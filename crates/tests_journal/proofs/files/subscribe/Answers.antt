use Rattle.std.proofs.Common.{refl}
use Rattle.policy_text.specs.Naming.{is_name}
use Rattle.tests_journal.proofs.files.subscribe.Goals as goal

pub new-requires : goal.new-requires
unfolding is_name
new-requires c = refl
