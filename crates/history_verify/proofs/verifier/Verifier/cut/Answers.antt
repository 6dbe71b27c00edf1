use Rattle.std.proofs.Common.{refl}
use Rattle.history_verify.proofs.FeedLaws.{on_err, none_where, some_where, not_where, where_true, fed_spoilt, fed_cut, fed_same}
use Rattle.history_verify.proofs.verifier.Verifier.cut.Goals as goal
use Rattle.history_verify.proofs.verifier.Verifier.cut.Goals.{then-self-gt0-via-then-self-gt0, then-self-gt0-via-else-self-gt0+then-not-may_cut}

pub returns-then-self-gt0-clause-ok : goal.returns-then-self-gt0-clause-ok
returns-then-self-gt0-clause-ok c = elim c.then-self-gt0.branch [
  | then-self-gt0-via-then-self-gt0 w ↦ λ h fed. fed_spoilt c.args.self.now _ h c.args.sub fed refl refl (λ none g so may. some_where c.args.self.now.behind w.if-self-gt0.true none)
  | then-self-gt0-via-else-self-gt0+then-not-may_cut w ↦ λ h fed. fed_spoilt c.args.self.now _ h c.args.sub fed refl refl (λ none g so may. not_where w.may_cut.result (w.may_cut.ensures g so) w.if-not-may_cut.true may)
]

pub returns-in_err-cut-clause-unchanged : goal.returns-in_err-cut-clause-unchanged
returns-in_err-cut-clause-unchanged c = on_err c.from_residual.result (λ h fed. fed_same c.args.self.now _ h refl c.in_err-cut.ensures.unchanged.stands fed)

pub returns-clause-ok : goal.returns-clause-ok
returns-clause-ok c = λ h fed. fed_cut c.args.self.now _ h c.args.sub fed (none_where c.args.self.now.behind c.if-self-gt0.false) refl
    (c.in_ok-cut.ensures.ok fed.front fed.over.stands (where_true c.may_cut.result (c.may_cut.ensures fed.front fed.over.stands) c.if-not-may_cut.false))
