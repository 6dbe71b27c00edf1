use Rattle.std.proofs.Common.{◌≡◌, rules}
use Rattle.mediator_calls.specs.Mediation.{started}
use Rattle.mediator_calls.specs.View.{view_of, StandsForJournal}
use Rattle.mediator_calls.proofs.CallLaws.{kept_start}
use Rattle.mediator_calls.proofs.mediator.Mediator.new.Goals as goal

pub invariant_of-result : goal.invariant_of-result
invariant_of-result c =
    let stands : StandsForJournal c.in_ok-state.state = search rules in
    let is : view_of c.in_ok-state.state ≡ started c.args.limits = search rules in
    kept_start c.args.limits c.in_ok-state.state stands is
