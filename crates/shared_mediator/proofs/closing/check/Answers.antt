use Rattle.std.proofs.Common.{◌∙◌, ap, map, subst, sym, []}
use Rattle.std.proofs.lemmas.List.{length-map}
use Rattle.mediator_calls.specs.Mediation.{Mediation}
use Rattle.mediator_state.proofs.CallLaws.{err_gives}
use Rattle.shared_mediator.specs.Locked.{Exporting}
use Rattle.shared_mediator.specs.Closing.{NamesReceipt, receipts_of}
use Rattle.shared_mediator.proofs.ClosingLaws.{checked, names_in}
use Rattle.shared_mediator.proofs.closing.check.Goals as goal

pub returns-clause-marked : goal.returns-clause-marked
returns-clause-marked g c =
    checked c.args.counted.now.core.history c.journal-journal.result.now.entries c.args.counted.now.from c.in_ok-marks.marks c.mark_exporters.new.marks c.mark_admins.new.marks c.args.exporters.now c.args.admins.now
    (c.journal-journal.ensures.entries ∙ ap (λ (m : Mediation). m.history) c.mediator.ensures) (c.in_ok-marks.ensures.from ∙ c.from.ensures.value) c.in_ok-mark_exporters.ensures.from c.in_ok-mark_admins.ensures.from
    c.in_ok-marks.ensures.none c.in_ok-mark_exporters.ensures.ok c.in_ok-mark_admins.ensures.ok

pub returns-clause-accepted : goal.returns-clause-accepted
returns-clause-accepted g c = c.count-accepted.ensures.receipts _ _ (c.in_ok-mark_exporters.ensures.ok [] c.in_ok-marks.ensures.none)

pub returns-in_err-mark_admins-clause-names : goal.returns-in_err-mark_admins-clause-names
returns-in_err-mark_admins-clause-names g c few =
    let history = c.args.counted.now.core.history in
    let receipts = receipts_of c.args.exporters.now c.args.admins.now in
    let from = c.args.counted.now.from in
    err_gives c.from_residual-in_err-mark_admins.result c.from_residual-in_err-mark_admins.ensures
    (λ e is. subst (λ x. NamesReceipt x from history receipts) (sym is)
    (names_in c.in_err-mark_admins.field-0.0 from c.mark_exporters.new.marks.from history c.journal-journal.result.now.entries receipts
    (c.journal-journal.ensures.entries ∙ ap (λ (m : Mediation). m.history) c.mediator.ensures) (c.in_ok-mark_exporters.ensures.from ∙ c.in_ok-marks.ensures.from ∙ c.from.ensures.value)
    (c.in_err-mark_admins.ensures.names few (map (λ (h : Exporting). h.kept) c.args.exporters.now) (c.in_ok-mark_exporters.ensures.ok [] c.in_ok-marks.ensures.none) (length-map c.args.exporters.now (λ (h : Exporting). h.kept)))))
