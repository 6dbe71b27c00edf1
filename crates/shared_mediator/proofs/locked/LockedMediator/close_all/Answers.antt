use Rattle.std.proofs.Common.{rules, ◌≡◌, ap}
use Rattle.mediator_calls.specs.Mediation.{Mediation}
use Rattle.shared_mediator.specs.Counted.{receipts_since}
use Rattle.shared_mediator.specs.Closing.{entries_kept}
use Rattle.shared_mediator.proofs.ClosingLaws.{closes_for}
use Rattle.shared_mediator.proofs.locked.LockedMediator.close_all.Goals as goal

pub returns-clause-receipts : goal.returns-clause-receipts
returns-clause-receipts g c =
    let book : entries_kept c.args.exporters.items c.args.admins.items ≡ receipts_since c.self.inside.counted = search rules in
    closes_for g.E.EntryLedger.before c.into_mediator.result.history c.self.inside.counted c.args.exporters.items c.as_slice.result.now c.args.admins.items c.as_slice-2.result.now
    (ap (λ (m : Mediation). m.history) c.into_mediator.ensures) c.as_slice.ensures.value c.as_slice-2.ensures.value c.self.invariant.from c.self.invariant.begins
    c.in_ok-accepted.ensures.marked c.in_ok-accepted.ensures.messages c.in_ok-accepted.ensures.entries book
