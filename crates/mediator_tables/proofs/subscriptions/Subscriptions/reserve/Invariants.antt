use Rattle.std.proofs.Common.{◌≡◌, map, take}
use Rattle.std.specs.List.{AllByRecursion}
use Rattle.mediator_tables.specs.SubscriptionTable.{shown, SameLive, HasSpare}
use Rattle.mediator_tables.specs.Naming.{AreNamed, number_under, name_of_sub}
use Rattle.mediator_tables.proofs.subscriptions.Subscriptions.reserve.Given as goal

abbrev pub invariant-shares : goal.invariant-shares
invariant-shares l = record {
  named : AreNamed (number_under l.self-inside.names) (name_of_sub l.self-inside.by_number.entries);
  same : SameLive l.fn.self.live l.self-inside.by_number.entries;
  served : l.self-inside.served.items ≡ l.fn.self.served;
  spare : AllByRecursion (HasSpare l.self-inside.by_number.entries) (map shown (take l.share-index l.shares));
}
