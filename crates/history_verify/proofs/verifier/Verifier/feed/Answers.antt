use Rattle.std.proofs.Common.{◌∙◌, ℕ, List, refl, sym, ap}
use Rattle.event_journal.specs.declared.entry.Entry.TheVariants.{Edit}
use Rattle.history_verify.proofs.FeedLaws.{err_gives, err_map, ok_map, on_err_map, took, refused, waited, fed_same}
use Rattle.history_verify.proofs.verifier.Verifier.feed.Goals as goal

pub returns-in_err-none_wait-in-Open-clause-err : goal.returns-in_err-none_wait-in-Open-clause-err
returns-in_err-none_wait-in-Open-clause-err c =
    err_gives c.from_residual.result c.from_residual.ensures (λ e same h fed. waited c.args.self.now _ c.args.entry.now e c.in_err-none_wait-in-Open.field-0.0 c.in-Open.is same refl (λ s g. refl) c.in_err-none_wait-in-Open.ensures.err h fed)

pub returns-in_ok-none_wait-in-Open-clause-ok : goal.returns-in_ok-none_wait-in-Open-clause-ok
returns-in_ok-none_wait-in-Open-clause-ok c =
    ok_map c.open.result c.open.ensures.ok (λ takes h fed. took c.args.self.now _ _ c.args.entry.now (c.in-Open.is) c.in_ok-none_wait-in-Open.ensures.waiting c.in_ok-none_wait-in-Open.ensures.behind refl takes h fed)

pub returns-in_ok-none_wait-in-Open-clause-err : goal.returns-in_ok-none_wait-in-Open-clause-err
returns-in_ok-none_wait-in-Open-clause-err c =
    err_map c.open.result c.open.ensures.err (λ e names h fed. refused c.args.self.now _ c.args.entry.now e (c.in-Open.is) refl names h fed)

pub returns-in_ok-none_wait-in-Open-clause-unchanged : goal.returns-in_ok-none_wait-in-Open-clause-unchanged
returns-in_ok-none_wait-in-Open-clause-unchanged c = on_err_map c.open.result c.open.ensures.unchanged (λ same h fed. fed_same c.args.self.now _ h refl same.stands fed)

pub returns-in_err-none_wait-in-Close-clause-err : goal.returns-in_err-none_wait-in-Close-clause-err
returns-in_err-none_wait-in-Close-clause-err c =
    err_gives c.from_residual-in_err-none_wait-in-Close.result c.from_residual-in_err-none_wait-in-Close.ensures (λ e same h fed. waited c.args.self.now _ c.args.entry.now e c.in_err-none_wait-in-Close.field-0.0 c.in-Close.is same refl (λ s g. refl) c.in_err-none_wait-in-Close.ensures.err h fed)

pub returns-in_ok-none_wait-in-Close-clause-ok : goal.returns-in_ok-none_wait-in-Close-clause-ok
returns-in_ok-none_wait-in-Close-clause-ok c =
    ok_map c.close.result c.close.ensures.ok (λ takes h fed. took c.args.self.now _ _ c.args.entry.now (c.in-Close.is) c.in_ok-none_wait-in-Close.ensures.waiting c.in_ok-none_wait-in-Close.ensures.behind refl takes h fed)

pub returns-in_ok-none_wait-in-Close-clause-err : goal.returns-in_ok-none_wait-in-Close-clause-err
returns-in_ok-none_wait-in-Close-clause-err c =
    err_map c.close.result c.close.ensures.err (λ e names h fed. refused c.args.self.now _ c.args.entry.now e (c.in-Close.is) refl names h fed)

pub returns-in_ok-none_wait-in-Close-clause-unchanged : goal.returns-in_ok-none_wait-in-Close-clause-unchanged
returns-in_ok-none_wait-in-Close-clause-unchanged c = on_err_map c.close.result c.close.ensures.unchanged (λ same h fed. fed_same c.args.self.now _ h refl same.stands fed)

pub returns-in_err-none_wait-in-Edit-clause-err : goal.returns-in_err-none_wait-in-Edit-clause-err
returns-in_err-none_wait-in-Edit-clause-err c =
    err_gives c.from_residual-in_err-none_wait-in-Edit.result c.from_residual-in_err-none_wait-in-Edit.ensures (λ e same h fed. waited c.args.self.now _ c.args.entry.now e c.in_err-none_wait-in-Edit.field-0.0 c.in-Edit.is same refl (λ s g. refl) c.in_err-none_wait-in-Edit.ensures.err h fed)

pub returns-in_ok-none_wait-in-Edit-clause-ok : goal.returns-in_ok-none_wait-in-Edit-clause-ok
returns-in_ok-none_wait-in-Edit-clause-ok c =
    ok_map c.edit.result c.edit.ensures.ok (λ takes h fed. took c.args.self.now _ _ c.args.entry.now (c.in-Edit.is ∙ ap (λ (t : List ℕ). Edit t) (sym c.as_str.ensures)) c.in_ok-none_wait-in-Edit.ensures.waiting c.in_ok-none_wait-in-Edit.ensures.behind refl takes h fed)

pub returns-in_ok-none_wait-in-Edit-clause-err : goal.returns-in_ok-none_wait-in-Edit-clause-err
returns-in_ok-none_wait-in-Edit-clause-err c =
    err_map c.edit.result c.edit.ensures.err (λ e names h fed. refused c.args.self.now _ c.args.entry.now e (c.in-Edit.is ∙ ap (λ (t : List ℕ). Edit t) (sym c.as_str.ensures)) refl names h fed)

pub returns-in_ok-none_wait-in-Edit-clause-unchanged : goal.returns-in_ok-none_wait-in-Edit-clause-unchanged
returns-in_ok-none_wait-in-Edit-clause-unchanged c = on_err_map c.edit.result c.edit.ensures.unchanged (λ same h fed. fed_same c.args.self.now _ h refl same.stands fed)

pub returns-in_err-none_wait-in-Subscribe-clause-err : goal.returns-in_err-none_wait-in-Subscribe-clause-err
returns-in_err-none_wait-in-Subscribe-clause-err c =
    err_gives c.from_residual-in_err-none_wait-in-Subscribe.result c.from_residual-in_err-none_wait-in-Subscribe.ensures (λ e same h fed. waited c.args.self.now _ c.args.entry.now e c.in_err-none_wait-in-Subscribe.field-0.0 c.in-Subscribe.is same refl (λ s g. refl) c.in_err-none_wait-in-Subscribe.ensures.err h fed)

pub returns-in_ok-none_wait-in-Subscribe-clause-ok : goal.returns-in_ok-none_wait-in-Subscribe-clause-ok
returns-in_ok-none_wait-in-Subscribe-clause-ok c =
    ok_map c.subscribe.result c.subscribe.ensures.ok (λ takes h fed. took c.args.self.now _ _ c.args.entry.now (c.in-Subscribe.is) c.in_ok-none_wait-in-Subscribe.ensures.waiting c.in_ok-none_wait-in-Subscribe.ensures.behind refl takes h fed)

pub returns-in_ok-none_wait-in-Subscribe-clause-err : goal.returns-in_ok-none_wait-in-Subscribe-clause-err
returns-in_ok-none_wait-in-Subscribe-clause-err c =
    err_map c.subscribe.result c.subscribe.ensures.err (λ e names h fed. refused c.args.self.now _ c.args.entry.now e (c.in-Subscribe.is) refl names h fed)

pub returns-in_ok-none_wait-in-Subscribe-clause-unchanged : goal.returns-in_ok-none_wait-in-Subscribe-clause-unchanged
returns-in_ok-none_wait-in-Subscribe-clause-unchanged c = on_err_map c.subscribe.result c.subscribe.ensures.unchanged (λ same h fed. fed_same c.args.self.now _ h refl same.stands fed)

pub returns-in_err-none_wait-in-Unsubscribe-clause-err : goal.returns-in_err-none_wait-in-Unsubscribe-clause-err
returns-in_err-none_wait-in-Unsubscribe-clause-err c =
    err_gives c.from_residual-in_err-none_wait-in-Unsubscribe.result c.from_residual-in_err-none_wait-in-Unsubscribe.ensures (λ e same h fed. waited c.args.self.now _ c.args.entry.now e c.in_err-none_wait-in-Unsubscribe.field-0.0 c.in-Unsubscribe.is same refl (λ s g. refl) c.in_err-none_wait-in-Unsubscribe.ensures.err h fed)

pub returns-in_ok-none_wait-in-Unsubscribe-clause-ok : goal.returns-in_ok-none_wait-in-Unsubscribe-clause-ok
returns-in_ok-none_wait-in-Unsubscribe-clause-ok c =
    ok_map c.unsubscribe.result c.unsubscribe.ensures.ok (λ takes h fed. took c.args.self.now _ _ c.args.entry.now (c.in-Unsubscribe.is) c.in_ok-none_wait-in-Unsubscribe.ensures.waiting c.in_ok-none_wait-in-Unsubscribe.ensures.behind refl takes h fed)

pub returns-in_ok-none_wait-in-Unsubscribe-clause-err : goal.returns-in_ok-none_wait-in-Unsubscribe-clause-err
returns-in_ok-none_wait-in-Unsubscribe-clause-err c =
    err_map c.unsubscribe.result c.unsubscribe.ensures.err (λ e names h fed. refused c.args.self.now _ c.args.entry.now e (c.in-Unsubscribe.is) refl names h fed)

pub returns-in_ok-none_wait-in-Unsubscribe-clause-unchanged : goal.returns-in_ok-none_wait-in-Unsubscribe-clause-unchanged
returns-in_ok-none_wait-in-Unsubscribe-clause-unchanged c = on_err_map c.unsubscribe.result c.unsubscribe.ensures.unchanged (λ same h fed. fed_same c.args.self.now _ h refl same.stands fed)
