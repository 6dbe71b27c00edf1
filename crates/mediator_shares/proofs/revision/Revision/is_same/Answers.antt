use Rattle.std.proofs.Common.{sym, ap, ◌∙◌}
use Rattle.std.proofs.lemmas.Slice.Eq.{bytes_eq-Decides}
use Rattle.policy_text.specs.Printing.{policy_text}
use Rattle.mediator_shares.proofs.TermsLaws.{same_policy}
use Rattle.mediator_shares.proofs.revision.Revision.is_same.Goals as goal

pub returns : goal.returns
returns c =
    let decides = bytes_eq-Decides c.as_bytes.result.now c.as_bytes-2.result.now in (
      (λ yes. sym c.self.view_is
          ∙ same_policy c.self.inside.policy c.other.inside.policy c.self.invariant.sound c.other.invariant.sound
          (sym c.self.invariant.printed ∙ sym c.as_bytes.ensures.value ∙ decides.0 (sym c.eq.ensures ∙ yes) ∙ c.as_bytes-2.ensures.value ∙ c.other.invariant.printed) ∙ c.other.view_is),
      (λ same. c.eq.ensures
          ∙ decides.1 (c.as_bytes.ensures.value ∙ c.self.invariant.printed ∙ ap policy_text (c.self.view_is ∙ same ∙ sym c.other.view_is) ∙ sym c.other.invariant.printed ∙ sym c.as_bytes-2.ensures.value)),
    )
