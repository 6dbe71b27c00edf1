use Rattle.std.proofs.Common.{map, sym, ap, ◌∙◌}
use Rattle.std.specs.Arc.{arc_value}
use Rattle.mediator_tables.specs.SubscriptionTable.{told}
use Rattle.mediator_shares.specs.Terms.{Terms}
use Rattle.mediator_shares.proofs.TermsLaws.{judged_alike}
use Rattle.mediator_shares.proofs.workspace.Workspace.judge.Goals as goal

pub returns-clause-judgement : goal.returns-clause-judgement
returns-clause-judgement c = record {
  by_terms = λ f served n is.
      let shares = c.in_ok-shares.ensures in
      judged_alike c.args.domain c.args.records.now c.in_ok-in_force.in_force c.deref-4.result.now _ (arc_value c.args.terms.now) c.in_ok-shares.shares
      (ap (λ (t : Terms). t.in_force) (sym c.deref.ensures) ∙ sym c.in_ok-in_force.ensures) (ap (map told) c.deref-4.ensures.value ∙ c.in_ok-served.ensures ∙ ap (λ (t : Terms). t.served) c.deref-2.ensures)
      (ap (λ (t : Terms). t.most) (sym c.deref-3.ensures) ∙ sym c.most-most.ensures) (record { shares_are = shares.shares; tallies_are = shares.tallies; notes_are = shares.notes }) f served n (sym c.in_ok-clone.ensures.cases ∙ is);
}
