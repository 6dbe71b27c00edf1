use Rattle.std.proofs.Common.{[], ◌∙◌, ◌∷◌, ◌++◌, take, sym, subst, arith}
use Rattle.std.proofs.lemmas.List.{take_all}
use Rattle.history_verify.specs.declared.fault.Fault.{Fault}
use Rattle.history_verify.specs.Answers.{IsVerified, NamesFirstOfAny}
use Rattle.history_verify.specs.Standing.{IsFed}
use Rattle.history_verify.proofs.FeedLaws.{err_gives, err_map, if_ok_map, none_within, fed_short, fed_next, first_of_all}
use Rattle.history_verify.proofs.verified.verify.Goals as goal

pub entries-init : goal.entries-init
entries-init c = record { fed = c.in_ok-verifier.ensures.fed; wanted = c.in_ok-verifier.ensures.wanted }

pub feed-requires : goal.feed-requires
feed-requires c = record { short = fed_short c.entries.verifier c.args.journal.now.entries c.entries.position c.entries.invariant.fed (omega (arith, c.len-position-end.ensures.value, c.len-position-end.ensures.within, c.len-position-end.ensures.limits.most_entries)) }

pub returns-in_err-feed-in-Some-clause-err : goal.returns-in_err-feed-in-Some-clause-err
returns-in_err-feed-in-Some-clause-err c =
    err_gives c.from_residual-in_err-feed-in-Some.result c.from_residual-in_err-feed-in-Some.ensures
    (λ e same. first_of_all e c.args.journal.now.entries c.entries.position c.in-Some.entry.now (sym c.in-Some.ensures)
    (subst (λ (w : Fault). NamesFirstOfAny w (take c.entries.position c.args.journal.now.entries ++ c.in-Some.entry.now ∷ [])) (sym same) (c.in_err-feed-in-Some.ensures.err (take c.entries.position c.args.journal.now.entries) c.entries.invariant.fed)))

pub unreachable-requires : goal.unreachable-requires
unreachable-requires c = none_within c.args.journal.now.entries c.entries.position (sym c.in-None.ensures) (omega (arith, c.entries-test.true, c.len-position-end.ensures.value))

pub entries-preserved : goal.entries-preserved
entries-preserved c = record {
  fed = fed_next c.feed.new.self c.args.journal.now.entries c.entries.position c.in-Some.entry.now (sym c.in-Some.ensures) (c.in_ok-feed-in-Some.ensures.ok (take c.entries.position c.args.journal.now.entries) c.entries.invariant.fed);
  wanted = c.feed.ensures.wanted ∙ c.entries.invariant.wanted;
}

pub finish-requires : goal.finish-requires
finish-requires c = record { short = fed_short c.entries.verifier c.args.journal.now.entries c.entries.position c.entries.invariant.fed (omega (arith, c.len-position-end.ensures.value, c.len-position-end.ensures.within, c.len-position-end.ensures.limits.most_entries)) }

pub returns-clause-ok : goal.returns-clause-ok
returns-clause-ok c = if_ok_map c.finish.result c.finish.ensures.ok (λ v all. subst (λ b. IsVerified b c.args.journal.now.entries v) c.entries.invariant.wanted (all c.args.journal.now.entries
    (subst (IsFed c.entries.verifier) (take_all c.entries.position c.args.journal.now.entries (omega (arith, c.entries-test.false, c.len-position-end.ensures.value))) c.entries.invariant.fed)))

pub returns-clause-err : goal.returns-clause-err
returns-clause-err c = err_map c.finish.result c.finish.ensures.err (λ e all. all c.args.journal.now.entries
    (subst (IsFed c.entries.verifier) (take_all c.entries.position c.args.journal.now.entries (omega (arith, c.entries-test.false, c.len-position-end.ensures.value))) c.entries.invariant.fed))
