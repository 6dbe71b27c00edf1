use Rattle.stream_meaning.proofs.Runs.{means_so_far, means_all}
use Rattle.stream_meaning.proofs.Handing.{means_drained}
use Rattle.stream_meaning.proofs.laws.messages_mean_the_list.Goals as goal

pub returns-clause-so_far : goal.returns-clause-so_far
returns-clause-so_far c = means_so_far

pub returns-clause-whole : goal.returns-clause-whole
returns-clause-whole c = means_all

pub returns-clause-drained : goal.returns-clause-drained
returns-clause-drained c = means_drained
