use Rattle.std.proofs.Common.{◌≡◌, refl, sym, ap, ◌∙◌, Result, Ok, Err}
use Rattle.std.specs.Prelude.{codes}
use Rattle.policy_text.specs.Policies.{PolicyMeaning, nothing}
use Rattle.policy_text.specs.Parsing.{policy_of, read_lines, step, version_of}
use Rattle.policy_text.specs.Words.{words_of}
use Rattle.policy_text.specs.declared.fault.Fault.{Fault as PolicyFault}
use Rattle.ipmd_explain.proofs.explainer.no_policy.Goals as goal

-- the shortest text of a policy
shortest : policy_of (codes "policy 1") ≡ Ok nothing
unfolding policy_of read_lines words_of step version_of
shortest = refl

abbrev policy_in : Result PolicyMeaning PolicyFault → PolicyMeaning
policy_in (Ok policy) = policy
policy_in (Err fault) = nothing

pub returns-in-Ok : goal.returns-in-Ok
returns-in-Ok c = ap policy_in (sym c.in-Ok.ensures.exact ∙ shortest)
