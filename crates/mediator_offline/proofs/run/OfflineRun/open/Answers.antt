use Rattle.std.proofs.Common.{refl, subst, sym, ◌∙◌, [], ◌∷◌}
use Rattle.event_journal.specs.declared.entry.Entry.TheVariants.{Edit, Subscribe}
use Rattle.mediator_offline.specs.Offline.{first_edit}
use Rattle.mediator_offline.specs.Opening.{RefusesJob}
use Rattle.mediator_offline.proofs.Receiving.{err_gives}
use Rattle.mediator_offline.proofs.Opened.{made, edited_stands, subscribed_stands, opened, edit_refused, subscribe_refused, open_refused}
use Rattle.mediator_offline.proofs.run.OfflineRun.open.Goals as goal

pub returns-in_err-edit-clause-err : goal.returns-in_err-edit-clause-err
returns-in_err-edit-clause-err g c =
    err_gives c.from_residual-in_err-edit.result c.from_residual-in_err-edit.ensures
    (λ e is. subst (λ x. RefusesJob x c.args.job) (sym is) (edit_refused c.in_err-edit.field-0.0 c.in_ok-state.state c.args.job (made c.in_ok-state.state c.new.result c.new.ensures c.in_ok-state.ensures.stands c.in_ok-state.ensures.kept c.in_ok-state.ensures.limits (c.in_ok-state.ensures.audit_limit ∙ c.new-audit.ensures.limit)) (c.in_err-edit.ensures.err [] (made c.in_ok-state.state c.new.result c.new.ensures c.in_ok-state.ensures.stands c.in_ok-state.ensures.kept c.in_ok-state.ensures.limits (c.in_ok-state.ensures.audit_limit ∙ c.new-audit.ensures.limit)).stands)))

pub subscribe-requires : goal.subscribe-requires
subscribe-requires g c = record { stands = record { history = first_edit c.args.job; stands = edited_stands c.in_ok-state.state c.edit.new.self c.args.job c.in_ok-edit.field-0 (made c.in_ok-state.state c.new.result c.new.ensures c.in_ok-state.ensures.stands c.in_ok-state.ensures.kept c.in_ok-state.ensures.limits (c.in_ok-state.ensures.audit_limit ∙ c.new-audit.ensures.limit)) c.in_ok-edit.ensures.ok.goes_on } }

pub returns-in_err-subscribe-clause-err : goal.returns-in_err-subscribe-clause-err
returns-in_err-subscribe-clause-err g c =
    err_gives c.from_residual-in_err-subscribe.result c.from_residual-in_err-subscribe.ensures
    (λ e is. subst (λ x. RefusesJob x c.args.job) (sym is)
    (subscribe_refused c.in_err-subscribe.field-0.0 c.in_ok-state.state c.edit.new.self c.args.job c.in_ok-edit.field-0 (made c.in_ok-state.state c.new.result c.new.ensures c.in_ok-state.ensures.stands c.in_ok-state.ensures.kept c.in_ok-state.ensures.limits (c.in_ok-state.ensures.audit_limit ∙ c.new-audit.ensures.limit)) (record { untouched = c.in_ok-edit.ensures.ok.untouched; journaled = c.in_ok-edit.ensures.ok.journaled }) c.in_ok-edit.ensures.ok.goes_on
    (c.in_err-subscribe.ensures.err (first_edit c.args.job) (edited_stands c.in_ok-state.state c.edit.new.self c.args.job c.in_ok-edit.field-0 (made c.in_ok-state.state c.new.result c.new.ensures c.in_ok-state.ensures.stands c.in_ok-state.ensures.kept c.in_ok-state.ensures.limits (c.in_ok-state.ensures.audit_limit ∙ c.new-audit.ensures.limit)) c.in_ok-edit.ensures.ok.goes_on))))

pub open-requires : goal.open-requires
open-requires g c = record {
  stands = record {
    history = Edit c.args.job.policy.now ∷ Subscribe 1 c.args.job.name.now ∷ [];
    stands = subscribed_stands c.in_ok-state.state c.edit.new.self c.subscribe.new.self c.args.job c.in_ok-edit.field-0 c.in_ok-subscribe.field-0.0 (made c.in_ok-state.state c.new.result c.new.ensures c.in_ok-state.ensures.stands c.in_ok-state.ensures.kept c.in_ok-state.ensures.limits (c.in_ok-state.ensures.audit_limit ∙ c.new-audit.ensures.limit)) c.in_ok-edit.ensures.ok.goes_on c.in_ok-subscribe.ensures.ok.goes_on;
  };
}

pub returns-in_err-open-clause-err : goal.returns-in_err-open-clause-err
returns-in_err-open-clause-err g c =
    err_gives c.from_residual-in_err-open.result c.from_residual-in_err-open.ensures
    (λ e is. subst (λ x. RefusesJob x c.args.job) (sym is)
    (open_refused c.in_err-open.field-0.0 c.in_ok-state.state c.edit.new.self c.subscribe.new.self c.args.job c.in_ok-edit.field-0 c.in_ok-subscribe.field-0.0 (made c.in_ok-state.state c.new.result c.new.ensures c.in_ok-state.ensures.stands c.in_ok-state.ensures.kept c.in_ok-state.ensures.limits (c.in_ok-state.ensures.audit_limit ∙ c.new-audit.ensures.limit)) (record { untouched = c.in_ok-edit.ensures.ok.untouched; journaled = c.in_ok-edit.ensures.ok.journaled }) c.in_ok-edit.ensures.ok.goes_on (record { untouched = c.in_ok-subscribe.ensures.ok.untouched; journaled = c.in_ok-subscribe.ensures.ok.journaled }) c.in_ok-subscribe.ensures.ok.goes_on
    (c.in_err-open.ensures.err (Edit c.args.job.policy.now ∷ Subscribe 1 c.args.job.name.now ∷ [])
    (subscribed_stands c.in_ok-state.state c.edit.new.self c.subscribe.new.self c.args.job c.in_ok-edit.field-0 c.in_ok-subscribe.field-0.0 (made c.in_ok-state.state c.new.result c.new.ensures c.in_ok-state.ensures.stands c.in_ok-state.ensures.kept c.in_ok-state.ensures.limits (c.in_ok-state.ensures.audit_limit ∙ c.new-audit.ensures.limit)) c.in_ok-edit.ensures.ok.goes_on c.in_ok-subscribe.ensures.ok.goes_on))))

pub returns-clause-ok : goal.returns-clause-ok
returns-clause-ok g c = opened _ c.in_ok-state.state c.edit.new.self c.subscribe.new.self c.args.job c.in_ok-edit.field-0 c.in_ok-subscribe.field-0.0 c.in_ok-open.field-0.0 refl refl refl refl (made c.in_ok-state.state c.new.result c.new.ensures c.in_ok-state.ensures.stands c.in_ok-state.ensures.kept c.in_ok-state.ensures.limits (c.in_ok-state.ensures.audit_limit ∙ c.new-audit.ensures.limit)) (record { untouched = c.in_ok-edit.ensures.ok.untouched; journaled = c.in_ok-edit.ensures.ok.journaled }) c.in_ok-edit.ensures.ok.goes_on (record { untouched = c.in_ok-subscribe.ensures.ok.untouched; journaled = c.in_ok-subscribe.ensures.ok.journaled }) c.in_ok-subscribe.ensures.ok.goes_on (record { untouched = c.in_ok-open.ensures.ok.untouched; journaled = c.in_ok-open.ensures.ok.journaled }) c.in_ok-open.ensures.ok.goes_on
