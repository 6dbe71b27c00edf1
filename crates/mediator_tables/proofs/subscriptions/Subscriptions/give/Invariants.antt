use Rattle.std.proofs.Common.{◌≡◌, map}
use Rattle.std.specs.Vec.Iter.{into_iter_items}
use Rattle.mediator_tables.specs.SubscriptionTable.{shown}
use Rattle.mediator_tables.specs.Naming.{AreNamed, number_under, name_of_sub}
use Rattle.mediator_tables.proofs.ShareLaws.{IsGiving}
use Rattle.mediator_tables.proofs.subscriptions.Subscriptions.give.Given as goal

abbrev pub invariant-shares : goal.invariant-shares
invariant-shares l = record {
  named : AreNamed (number_under l.self-inside.names) (name_of_sub l.self-inside.by_number.entries);
  giving : IsGiving l.fn.self.live l.self-inside.by_number.entries (map shown l.fn.shares.items) (map shown (into_iter_items l.share-iterator));
  served : l.self-inside.served.items ≡ l.fn.self.served;
}
