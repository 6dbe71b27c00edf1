use Rattle.mediator_history.proofs.SinceLaws.{cut_is_served_no_more, ended_is_served_no_more, unserved_get_nothing}
use Rattle.mediator_history.proofs.laws.cut_ends_serving.Goals as goal

pub returns-clause-serves_no_more : goal.returns-clause-serves_no_more
returns-clause-serves_no_more c = λ sub h. (cut_is_served_no_more sub h, ended_is_served_no_more sub h)

pub returns-clause-gives_nothing : goal.returns-clause-gives_nothing
returns-clause-gives_nothing c = unserved_get_nothing
