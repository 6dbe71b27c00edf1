use Rattle.std.proofs.Common.{◌∷◌, [], ap}
use Rattle.mediator_tables.specs.Adding.{tallied}
use Rattle.mediator_shares.proofs.SharingLaws.{as_share, share_grows}
use Rattle.mediator_shares.proofs.shares.Sums.tally.Goals as goal

pub returns-clause-tallies : goal.returns-clause-tallies
returns-clause-tallies c before after s split at =
    share_grows tallied c.args.self.now.tallies.items c.args.place c.index_mut.result.now (record { sub = c.index_mut.result.now.sub; counts = c.push.new.self }) (c.args.count ∷ []) before after s split at c.index_mut.ensures.value
    (ap (as_share c.index_mut.result.now.sub) c.in_ok-push.ensures.items)
