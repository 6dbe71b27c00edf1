use Rattle.std.proofs.Common.{◌≡◌, false, take}
use Rattle.mediator_shares.specs.Alike.{IsGrouping}
use Rattle.mediator_shares.proofs.alike.groups_of.Given as goal

abbrev pub invariant-served : goal.invariant-served
invariant-served l = IsGrouping l.in_force.policy.rules l.groups.leaders.items l.groups.unnamed (take l.who-index l.served) l.groups.places.items
    × (l.groups.has_led ≡ false → l.groups.leaders.items ≡ take l.who-index l.served)
