use Rattle.std.proofs.Common.{ap, ◌∙◌}
use Rattle.policy_text.specs.Policies.{PolicyMeaning}
use Rattle.mediator_shares.specs.Alike.{is_told_apart}
use Rattle.mediator_shares.proofs.revision.Revision.names.Goals as goal

pub returns : goal.returns
returns c = c.contains.ensures ∙ c.self.invariant.named_are c.args.name.now ∙ ap (λ (policy : PolicyMeaning). is_told_apart c.args.name.now policy.rules) c.self.view_is
