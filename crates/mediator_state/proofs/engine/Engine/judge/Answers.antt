use Rattle.std.proofs.Common.{ap, sym, ◌∙◌}
use Rattle.mediator_shares.specs.InForce.{InForce}
use Rattle.disclosure_audit.specs.Noting.{kept_notes}
use Rattle.mediator_shares.specs.Sharing.{shares_of, tallies_of, notes_of}
use Rattle.mediator_state.proofs.Judging.{split_of, none_cut, judges}
use Rattle.mediator_state.proofs.engine.Engine.judge.Goals as goal

pub share_left-requires-clause-shares : goal.share_left-requires-clause-shares
share_left-requires-clause-shares g c none =
    c.in_ok-all.ensures.shares
    ∙ ap (shares_of c.header-domain.result.domain c.args.self.now.in_force c.records-records.result.now)
    (none_cut c.args.self.now.subscriptions c.header-domain.result.domain c.args.self.now.in_force c.records-records.result.now c.in_ok-served.served.items c.deref.result.now c.in_ok-split.split.cuts.items c.deref-4.result.now c.in_ok-split.split.left.items c.deref-5.result.now
    (split_of c.args.self.now.subscriptions c.header-domain.result.domain c.args.self.now.in_force c.records-records.result.now c.in_ok-served.served.items c.deref.result.now c.deref-2.result.now c.in_ok-all.all.shares.items c.deref-3.result.now c.in_ok-split.split.cuts.items c.in_ok-split.split.left.items
    c.deref.ensures.value c.deref-2.ensures.value c.deref-3.ensures.value c.in_ok-all.ensures.shares c.in_ok-split.ensures.cuts c.in_ok-split.ensures.left)
    c.deref.ensures.value c.deref-4.ensures.value c.deref-5.ensures.value none)
    ∙ ap (λ (f : InForce). shares_of c.header-domain.result.domain f c.records-records.result.now c.deref-5.result.now) (sym c.shares_of_all.ensures.unchanged)

pub share_left-requires-clause-tallies : goal.share_left-requires-clause-tallies
share_left-requires-clause-tallies g c none =
    c.in_ok-all.ensures.tallies
    ∙ ap (tallies_of c.header-domain.result.domain c.args.self.now.in_force c.records-records.result.now)
    (none_cut c.args.self.now.subscriptions c.header-domain.result.domain c.args.self.now.in_force c.records-records.result.now c.in_ok-served.served.items c.deref.result.now c.in_ok-split.split.cuts.items c.deref-4.result.now c.in_ok-split.split.left.items c.deref-5.result.now
    (split_of c.args.self.now.subscriptions c.header-domain.result.domain c.args.self.now.in_force c.records-records.result.now c.in_ok-served.served.items c.deref.result.now c.deref-2.result.now c.in_ok-all.all.shares.items c.deref-3.result.now c.in_ok-split.split.cuts.items c.in_ok-split.split.left.items
    c.deref.ensures.value c.deref-2.ensures.value c.deref-3.ensures.value c.in_ok-all.ensures.shares c.in_ok-split.ensures.cuts c.in_ok-split.ensures.left)
    c.deref.ensures.value c.deref-4.ensures.value c.deref-5.ensures.value none)
    ∙ ap (λ (f : InForce). tallies_of c.header-domain.result.domain f c.records-records.result.now c.deref-5.result.now) (sym c.shares_of_all.ensures.unchanged)

pub share_left-requires-clause-notes : goal.share_left-requires-clause-notes
share_left-requires-clause-notes g c none =
    c.in_ok-all.ensures.notes
    ∙ ap (λ l. kept_notes c.from-most.result (notes_of c.header-domain.result.domain c.args.self.now.in_force c.records-records.result.now l))
    (none_cut c.args.self.now.subscriptions c.header-domain.result.domain c.args.self.now.in_force c.records-records.result.now c.in_ok-served.served.items c.deref.result.now c.in_ok-split.split.cuts.items c.deref-4.result.now c.in_ok-split.split.left.items c.deref-5.result.now
    (split_of c.args.self.now.subscriptions c.header-domain.result.domain c.args.self.now.in_force c.records-records.result.now c.in_ok-served.served.items c.deref.result.now c.deref-2.result.now c.in_ok-all.all.shares.items c.deref-3.result.now c.in_ok-split.split.cuts.items c.in_ok-split.split.left.items
    c.deref.ensures.value c.deref-2.ensures.value c.deref-3.ensures.value c.in_ok-all.ensures.shares c.in_ok-split.ensures.cuts c.in_ok-split.ensures.left)
    c.deref.ensures.value c.deref-4.ensures.value c.deref-5.ensures.value none)
    ∙ ap (λ (f : InForce). kept_notes c.from-most.result (notes_of c.header-domain.result.domain f c.records-records.result.now c.deref-5.result.now)) (sym c.shares_of_all.ensures.unchanged)

pub returns-clause-judged : goal.returns-clause-judged
returns-clause-judged g c =
    judges c.args.self.now c.args.position c.args.reading.now.meaning c.header-domain.result.domain c.records-records.result.now c.in_ok-served.served.items c.in_ok-split.split.cuts.items c.in_ok-split.split.left.items c.deref-5.result.now c.in_ok-left.left.shares.items c.in_ok-left.left.tallies.items c.in_ok-left.left.notes c.judged_at.result
    (ap (λ x. x.domain) c.header-domain.ensures) c.records-records.ensures c.in_ok-served.ensures
    (split_of c.args.self.now.subscriptions c.header-domain.result.domain c.args.self.now.in_force c.records-records.result.now c.in_ok-served.served.items c.deref.result.now c.deref-2.result.now c.in_ok-all.all.shares.items c.deref-3.result.now c.in_ok-split.split.cuts.items c.in_ok-split.split.left.items
    c.deref.ensures.value c.deref-2.ensures.value c.deref-3.ensures.value c.in_ok-all.ensures.shares c.in_ok-split.ensures.cuts c.in_ok-split.ensures.left)
    c.deref-5.ensures.value (c.in_ok-left.ensures.shares ∙ ap (λ (f : InForce). shares_of c.header-domain.result.domain f c.records-records.result.now c.deref-5.result.now) c.shares_of_all.ensures.unchanged) (c.in_ok-left.ensures.tallies ∙ ap (λ (f : InForce). tallies_of c.header-domain.result.domain f c.records-records.result.now c.deref-5.result.now) c.shares_of_all.ensures.unchanged) (c.in_ok-left.ensures.notes ∙ ap (λ (f : InForce). kept_notes c.from-most.result (notes_of c.header-domain.result.domain f c.records-records.result.now c.deref-5.result.now)) c.shares_of_all.ensures.unchanged ∙ ap (λ n. kept_notes n (notes_of c.header-domain.result.domain c.args.self.now.in_force c.records-records.result.now c.deref-5.result.now)) (c.from-most.ensures ∙ c.most_notes.ensures)) c.judged_at.ensures.cuts c.judged_at.ensures.shares c.judged_at.ensures.tallies c.judged_at.ensures.position c.judged_at.ensures.notes c.judged_at.ensures.streamable
