use Rattle.std.proofs.Common.{ap, ◌∙◌}
use Rattle.policy_judge.specs.Verdicts.{record_verdict_at}
use Rattle.policy_judge.proofs.FirstRuleLaws.{record_verdict_first}
use Rattle.policy_judge.proofs.judge.record_verdict_of.Goals as goal

pub returns : goal.returns
returns c =
    c.record_verdict_at.ensures ∙ ap (record_verdict_at c.args.rules.now) (rw c.as_bytes.ensures.value at c.first_on_records-first.ensures.value)
    ∙ record_verdict_first c.args.name.now c.args.domain c.args.flow_record.now c.args.rules.now
