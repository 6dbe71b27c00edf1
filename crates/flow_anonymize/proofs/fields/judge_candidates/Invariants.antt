use Rattle.std.proofs.Common.{◌≡◌, map}
use Rattle.std.specs.List.{range_with_len}
use Rattle.policy_judge.specs.Verdicts.{element_verdict_of}
use Rattle.flow_anonymize.proofs.fields.judge_candidates.Given as goal

abbrev pub invariant-loop-field : goal.invariant-loop-field
invariant-loop-field l = l.verdicts.items ≡ map (λ place. element_verdict_of l.candidates.name l.candidates.domain l.candidates.flow_record place l.candidates.rules) (range_with_len 0 l.field)
