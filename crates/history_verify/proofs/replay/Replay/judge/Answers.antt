use Rattle.std.proofs.Common.{map, ap, ◌∙◌}
use Rattle.std.specs.Prelude.{not}
use Rattle.disclosure_audit.specs.Noting.{kept_notes}
use Rattle.mediator_shares.specs.Sharing.{shares_of, tallies_of, notes_of}
use Rattle.disclosure_audit.specs.Queue.{stamp}
use Rattle.history_verify.proofs.UnborneLaws.{not_empty_where}
use Rattle.history_verify.proofs.Judging.{is_judged, notes_wanted}
use Rattle.history_verify.proofs.replay.Replay.judge.Goals as goal

pub returns-clause-judged : goal.returns-clause-judged
returns-clause-judged c = λ h session number octets s is.
    is_judged c.args.self.now.audit.wanted c.args.self.now h session number octets c.args.reading.now c.header.result.domain c.records-records.result.now c.in_ok-served.served.items (not c.is_empty.result) _ s is
    (ap (λ x. x.domain) c.header.ensures) c.records-records.ensures (not_empty_where c.records-records.result.now c.is_empty.result c.is_empty.ensures)
    (c.in_ok-served.ensures h s.over.subscribers)
    (c.in_ok-shares.ensures.shares ∙ ap (shares_of c.header.result.domain c.args.self.now.in_force c.records-records.result.now) c.deref.ensures.value)
    (c.in_ok-shares.ensures.tallies ∙ ap (tallies_of c.header.result.domain c.args.self.now.in_force c.records-records.result.now) c.deref.ensures.value)
    (c.in_ok-stamped.ensures ∙ ap (map (stamp c.args.self.now.position)) c.in_ok-notes.ensures.kept
    ∙ notes_wanted c.args.self.now.audit.wanted c.args.self.now.position c.most-most.result _ _ c.most-most.ensures (c.in_ok-shares.ensures.notes ∙ ap (λ l. kept_notes c.most-most.result (notes_of c.header.result.domain c.args.self.now.in_force c.records-records.result.now l)) c.deref.ensures.value) c.in_ok-notes.ensures.few)
