use Rattle.std.proofs.Common.{List, length}
use Rattle.std.specs.Vec.Iter.{into_iter_items}
use Rattle.ipfix_message.specs.declared.item.Item.{Item}
use Rattle.ipfix_session.specs.Keeping.{Keeps, StandIn}
use Rattle.ipfix_session.specs.Changing.{after}
use Rattle.ipfix_session.specs.Walking.{contents_in}
use Rattle.ipfix_session.proofs.WalkSteps.{Walks, HasRoom}
use Rattle.ipfix_session.proofs.walk.walk_items.Given as goal

abbrev pub invariant-items : goal.invariant-items
invariant-items l = record {
  stand : StandIn (length l.message) (into_iter_items l.rest);
  room : HasRoom l.state.skips (length (into_iter_items l.rest)) l.total;
  walks : (older : List Item) → Keeps l.base.templates older → Walks l.message (after l.state.changes l.base.templates) (into_iter_items l.rest) (contents_in l.state) older l.fn.said.items;
}

abbrev pub decreases-items : goal.decreases-items
decreases-items l = length (into_iter_items l.rest)
