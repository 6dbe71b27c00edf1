use Rattle.std.proofs.Common.{refl, sym, subst}
use Rattle.event_journal.specs.declared.entry.Entry.TheVariants.{Advance}
use Rattle.history_verify.specs.declared.fault.Fault.{Fault}
use Rattle.history_verify.specs.Standing.{NamesUnborne, IsFirstOr}
use Rattle.history_verify.proofs.FeedLaws.{err_gives, on_err, not_where, where_true, refused, names_unborne, fed_same, fed_more, short_front}
use Rattle.history_verify.proofs.verifier.Verifier.advance.Goals as goal

pub returns-then-not-may_advance-clause-err : goal.returns-then-not-may_advance-clause-err
returns-then-not-may_advance-clause-err c = λ h fed. refused c.args.self.now (Advance c.args.t) (Advance c.args.t) c.bad.result refl refl
    (λ g so. c.bad.ensures (Advance c.args.t) g so (not_where c.may_advance.result (c.may_advance.ensures g so) c.if-not-may_advance.true)) h fed

pub advance-requires : goal.advance-requires
advance-requires c = record { short = short_front c.args.self.now c.requires.short; accepted = λ h s. where_true c.may_advance.result (c.may_advance.ensures h s) c.if-not-may_advance.false }

pub returns-in_err-borne_out-clause-err : goal.returns-in_err-borne_out-clause-err
returns-in_err-borne_out-clause-err c =
    err_gives c.from_residual-in_err-borne_out.result c.from_residual-in_err-borne_out.ensures
    (λ e same h fed. names_unborne c.args.self.now h (Advance c.args.t) e c.in_ok-unborne.unborne fed
    (subst (λ (w : Fault). NamesUnborne w c.args.self.now c.in_ok-unborne.unborne) (sym same) c.in_err-borne_out.ensures.err) refl
    (where_true c.may_advance.result (c.may_advance.ensures fed.front fed.over.stands) c.if-not-may_advance.false)
    (c.in_ok-unborne.ensures.first fed.over.stands.settled fed.front fed.over.stands.over))

pub returns-in_err-advance-clause-unchanged : goal.returns-in_err-advance-clause-unchanged
returns-in_err-advance-clause-unchanged c = on_err c.from_residual-in_err-advance.result (λ h fed. fed_same c.args.self.now _ h refl c.in_err-advance.ensures.unchanged.stands fed)

pub returns-clause-ok : goal.returns-clause-ok
returns-clause-ok c = λ h fed. fed_more c.args.self.now _ h (Advance c.args.t) fed c.in_ok-borne_out.ensures.behind refl
    (c.in_ok-advance.ensures.ok fed.over.stands.settled fed.front fed.over.stands.over (where_true c.may_advance.result (c.may_advance.ensures fed.front fed.over.stands) c.if-not-may_advance.false)
    (subst (IsFirstOr _ c.args.self.now.replay.waiting.items) c.in_ok-borne_out.ensures.none (c.in_ok-unborne.ensures.first fed.over.stands.settled fed.front fed.over.stands.over)))
