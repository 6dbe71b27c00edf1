use Rattle.std.proofs.Common.{map}
use Rattle.mediator_tables.specs.SubscriptionTable.{shown}
use Rattle.mediator_state.proofs.Judging.{IsSplit}
use Rattle.mediator_state.proofs.plan.split_by_room.Given as goal

abbrev pub invariant-served : goal.invariant-served
invariant-served l = IsSplit l.subscriptions l.served (map shown l.shares) l.cuts.items l.left.items l.place
