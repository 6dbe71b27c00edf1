use Rattle.std.proofs.Common.{◌++◌, ◌∷◌, [], subst, sym}
use Rattle.history_verify.specs.declared.fault.Fault.{Fault as VerifyFault}
use Rattle.history_verify.specs.Answers.{NamesFirstOfAny}
use Rattle.ipmd_explain.proofs.ReadingLaws.{err_gives, fed_accepted}
use Rattle.ipmd_explain.proofs.reading.take.Goals as goal

pub returns-clause-ok : goal.returns-clause-ok
returns-clause-ok c = λ h fed so short.
    let next = c.in_ok-feed.ensures.ok h fed in
    record { fed = next; taken = c.in_ok-take.ensures h so (record { short = short; accepted = λ none. fed_accepted c.feed.new.self h c.args.entry next none }) }

pub returns-in_err-feed-clause-err : goal.returns-in_err-feed-clause-err
returns-in_err-feed-clause-err c =
    err_gives c.from_residual.result c.from_residual.ensures
    (λ e is h fed. subst (λ (w : VerifyFault). NamesFirstOfAny w (h ++ c.args.entry ∷ [])) (sym is) (c.in_err-feed.ensures.err h fed))
