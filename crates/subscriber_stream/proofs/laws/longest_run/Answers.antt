use Rattle.subscriber_stream.proofs.CallLaws.{run_within, run_longest}
use Rattle.subscriber_stream.proofs.laws.longest_run.Goals as goal

pub returns-clause-within : goal.returns-clause-within
returns-clause-within c = run_within

pub returns-clause-longest : goal.returns-clause-longest
returns-clause-longest c = run_longest
