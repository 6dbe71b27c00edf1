use Rattle.std.proofs.Common.{◌≡◌, ◌++◌, ◌∷◌, List, ℕ, Some, IfOk, slice_get, length, sym, ap, ◌∙◌, subst, arith}
use Rattle.std.specs.List.{flat_map}
use Rattle.std.proofs.lemmas.Result.{IfOk-weaker}
use Rattle.std.proofs.lemmas.List.{length-map}
use Rattle.flow_anonymize.specs.Classes.{classes_of}
use Rattle.flow_anonymize.specs.Outcome.{Decision, decision_of}
use Rattle.flow_anonymize.specs.Parts.{record_at, records_between}
use Rattle.flow_anonymize.specs.Plans.{PlansFor, outcome_for, passed_for}
use Rattle.mediator_shares.specs.Judges.{Judges, for_of, share_of_judge}
use Rattle.mediator_shares.proofs.JudgeLaws.{own_for, which_for, set_same}
use Rattle.mediator_shares.proofs.SharingLaws.{as_share, grown, share_grows}
use Rattle.mediator_shares.proofs.judges.Judges.disclose.Goals as goal

pub disclose-requires-clause-template : goal.disclose-requires-clause-template
disclose-requires-clause-template c =
    c.requires.template (for_of c.index_mut.result.now) (own_for c.self.inside.judges.items c.args.self.now.fors c.args.place c.index_mut.result.now (ap (λ (j : Judges). j.fors) c.self.view_is) c.requires.there c.index_mut.ensures.value)

pub disclose-requires-clause-classes : goal.disclose-requires-clause-classes
disclose-requires-clause-classes c = λ i low high.
    c.requires.classes i low high ∙ ap (λ (cuts : List ℕ). classes_of cuts (record_at c.args.run.now i))
    (sym (c.requires.cuts (for_of c.index_mut.result.now) (own_for c.self.inside.judges.items c.args.self.now.fors c.args.place c.index_mut.result.now (ap (λ (j : Judges). j.fors) c.self.view_is) c.requires.there c.index_mut.ensures.value)))

-- whichever are named
which : (c : goal.After-self-1) (p : PlansFor) → slice_get c.args.self.now.fors c.args.place ≡ Some p → p ≡ for_of c.index_mut.result.now
which c p at = which_for c.self.inside.judges.items c.args.self.now.fors c.args.place c.index_mut.result.now p (ap (λ (j : Judges). j.fors) c.self.view_is) c.requires.there c.index_mut.ensures.value at

pub returns-clause-decision : goal.returns-clause-decision
returns-clause-decision c = λ p i at low high.
    subst (λ (q : PlansFor). IfOk c.disclose.result (λ (d : Decision). d ≡ decision_of (outcome_for q (record_at c.args.run.now i)))) (sym (which c p at)) (c.disclose.ensures.decision i low high)

pub returns-clause-given : goal.returns-clause-given
returns-clause-given c = λ p before after s at split l.
    let part = records_between c.args.from c.args.to c.args.run.now in
    IfOk-weaker c.disclose.result _ _ (λ done grew.
    share_grows share_of_judge c.self.inside.judges.items c.args.place c.index_mut.result.now (record { sub = c.index_mut.result.now.sub; plans = c.disclose.new.self }) (flat_map (passed_for (for_of c.index_mut.result.now)) part) before after s
    (ap (λ (j : Judges). j.shares) c.self.view_is ∙ split) l c.index_mut.ensures.value (ap (as_share c.index_mut.result.now.sub) grew)
    ∙ ap (λ (q : PlansFor). before ++ grown s (flat_map (passed_for q) part) ∷ after) (sym (which c p at))) c.disclose.ensures.given

pub returns-clause-fors : goal.returns-clause-fors
returns-clause-fors c =
    let view = ap (λ (j : Judges). j.fors) c.self.view_is in
    set_same for_of c.self.inside.judges.items c.args.place c.index_mut.result.now (record { sub = c.index_mut.result.now.sub; plans = c.disclose.new.self }) (omega (arith, c.requires.there, ap length view, length-map c.self.inside.judges.items for_of)) c.index_mut.ensures.value c.disclose.ensures.same
    ∙ view
