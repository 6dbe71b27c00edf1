use Rattle.std.proofs.Common.{◌≡◌, ◌++◌, OnOk, List, ℕ, subst}
use Rattle.flow_anonymize.proofs.Planning.{kept_as_text, shows_text}
use Rattle.flow_anonymize.proofs.plan.Disclosure+Passing.put_shown.Goals as goal

pub returns-in-Passed-clause-ok : goal.returns-in-Passed-clause-ok
returns-in-Passed-clause-ok c =
    let shown = shows_text c.args.self.now c.in-Passed.kept c.in-Passed.removed c.args.flow_record.now c.as_octets-octets.result.now c.in-Passed.is c.requires c.as_octets-octets.ensures.sound c.as_octets-octets.ensures.value c.octets_for_proof.ensures in
    subst (λ (text : List ℕ). OnOk c.put_by_steps.result (c.put_by_steps.new.text.items ≡ c.args.text.now.items ++ text)) shown c.put_by_steps.ensures.ok

pub returns-in-Passed-clause-kept : goal.returns-in-Passed-clause-kept
returns-in-Passed-clause-kept c = kept_as_text c.args.self.now c.args.flow_record.now c.requires
