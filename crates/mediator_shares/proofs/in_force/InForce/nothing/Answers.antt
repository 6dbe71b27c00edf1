use Rattle.std.proofs.Common.{◌≡◌, refl, sym, ap, ◌∙◌, subst, IfOk, Result, Ok, Err}
use Rattle.std.specs.Prelude.{codes}
use Rattle.policy_text.specs.Policies.{PolicyMeaning, nothing}
use Rattle.policy_text.specs.Parsing.{policy_of, read_lines, step, version_of}
use Rattle.policy_text.specs.Words.{words_of}
use Rattle.policy_text.specs.declared.fault.Fault.{Fault as PolicyFault}
use Rattle.mediator_shares.specs.InForce.{in_force_with}
use Rattle.mediator_shares.proofs.in_force.InForce.nothing.Goals as goal

-- the shortest text of a policy
shortest : policy_of (codes "policy 1") ≡ Ok nothing
unfolding policy_of read_lines words_of step version_of
shortest = refl

abbrev policy_in : Result PolicyMeaning PolicyFault → PolicyMeaning
policy_in (Ok policy) = policy
policy_in (Err fault) = nothing

pub returns-in-Ok : goal.returns-in-Ok
returns-in-Ok c =
    let same : c.in-Ok.policy ≡ nothing = ap policy_in (sym c.in-Ok.ensures.exact ∙ shortest) in
    subst (λ (policy : PolicyMeaning). IfOk c.since.result (λ f. f ≡ in_force_with policy 0)) same c.since.ensures
