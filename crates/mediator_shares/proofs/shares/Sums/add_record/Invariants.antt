use Rattle.mediator_shares.proofs.SharingLaws.{IsNoting}
use Rattle.mediator_shares.proofs.shares.Sums.add_record.Given as goal

abbrev pub invariant-served : goal.invariant-served
invariant-served l = IsNoting l.fn.self.tallies.items l.self.tallies.items l.fn.self.notes l.self.notes l.domain l.in_force l.index l.flow_record l.served l.place
