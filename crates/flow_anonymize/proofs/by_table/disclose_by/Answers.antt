use Rattle.flow_anonymize.proofs.Planning.{shows_none}
use Rattle.flow_anonymize.proofs.by_table.disclose_by.Goals as goal

pub returns-clause-no_memory : goal.returns-clause-no_memory
returns-clause-no_memory c = λ other. c.disclose.ensures.no_memory (shows_none c.args.flow_record.now.template _ _ c.in_ok-plan.plan c.args.flow_record.now.values c.in_ok-plan.ensures.plan other)
