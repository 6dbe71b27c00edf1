use Rattle.std.proofs.Common.{◌∙◌}
use Rattle.mediator_calls.proofs.CallLaws.{kept_same, same_on}
use Rattle.mediator_calls.proofs.mediator.Mediator.hash_by.Goals as goal

pub invariant_of-self : goal.invariant_of-self
invariant_of-self c = kept_same c.self.inside.state c.hash_by.new.self c.self.invariant c.hash_by.ensures.unchanged

pub returns : goal.returns
returns c = record { unchanged = same_on c.self.inside.state c.hash_by.new.self c.self.invariant.stands c.hash_by.ensures.unchanged ∙ c.self.view_is }
