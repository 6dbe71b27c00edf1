use Rattle.std.proofs.Common.{◌≡◌, ◌++◌, OnOk, List, ℕ, ap, sym, subst, ◌∙◌}
use Rattle.flow_anonymize.specs.declared.stretch.Stretch.{Stretch}
use Rattle.flow_anonymize.specs.declared.steps.Steps.{Steps}
use Rattle.flow_anonymize.specs.Stretches.{shown_in}
use Rattle.flow_anonymize.specs.Steps.{shown_by, steps_in}
use Rattle.flow_anonymize.proofs.StepLaws.{shown_stretches}
use Rattle.flow_anonymize.proofs.steps.put_by_steps.Goals as goal

pub returns-in-Fixed-clause-ok : goal.returns-in-Fixed-clause-ok
returns-in-Fixed-clause-ok c =
    let same =
    ap (λ (ss : List Stretch). shown_in ss c.args.octets.now) c.deref.ensures.value ∙ shown_stretches c.in-Fixed.stretches.items c.args.octets.now
    ∙ ap (λ (s : Steps). shown_by (steps_in s) c.args.octets.now) (sym c.in-Fixed.is) in
    subst (λ (shown : List ℕ). OnOk c.put_stretches.result (c.put_stretches.new.text.items ≡ c.args.text.now.items ++ shown)) same c.put_stretches.ensures.ok
