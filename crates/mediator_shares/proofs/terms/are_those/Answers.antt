use Rattle.std.proofs.Common.{refl, sym, ◌∙◌, arith}
use Rattle.mediator_tables.specs.SubscriptionTable.{told}
use Rattle.mediator_shares.specs.Terms.{owned}
use Rattle.mediator_shares.proofs.TermsLaws.{no_truth, alike_at}
use Rattle.mediator_shares.proofs.terms.are_those.Goals as goal

pub returns-then-not-is : goal.returns-then-not-is
returns-then-not-is c = (
  (λ yes. absurd (no_truth yes)),
  (λ same. absurd (no_truth (sym c.if-not-is.true
      ∙ c.is.ensures.1 (alike_at owned told c.args.subscribers.now c.args.served.now c.subscribers.place c.index-subscribers-place.result _ _ _
      (omega (arith, c.subscribers-test.true)) (omega (arith, c.subscribers-test.true, c.if-subscribers-served.false)) c.index-subscribers-place.is refl same)))),
)
