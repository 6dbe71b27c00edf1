use Rattle.std.proofs.Common.{◌≡◌, Ok, ap, ◌∙◌, subst}
use Rattle.std.proofs.lemmas.Result.{IfOk-weaker}
use Rattle.std.specs.String.{string_bytes}
use Rattle.policy_text.specs.Policies.{PolicyMeaning}
use Rattle.policy_text.specs.Parsing.{policy_of}
use Rattle.policy_text.specs.Printing.{policy_text}
use Rattle.policy_text.specs.Grammar.{IsPolicy}
use Rattle.policy_text.specs.Spelling.{Spells}
use Rattle.policy_text.proofs.RoundLaws.{reads_back}
use Rattle.policy_text.proofs.SpellLaws.{policy_of-found}
use Rattle.policy_text.proofs.policy.Policy.print.Goals as goal

pub returns-clause-reads_back : goal.returns-clause-reads_back
returns-clause-reads_back c =
    let P : PolicyMeaning → Type 0 = λ p. IsPolicy p in
    IfOk-weaker c.policy_to_text.result (λ text. string_bytes text ≡ policy_text c.args.self.now) (λ text. policy_of (string_bytes text) ≡ Ok c.args.self.now)
    (λ text e. ap policy_of e ∙ reads_back c.args.self.now (subst P c.self.view_is c.self.invariant))
    c.policy_to_text.ensures

pub returns-clause-spelled : goal.returns-clause-spelled
returns-clause-spelled c =
    let P : PolicyMeaning → Type 0 = λ p. IsPolicy p in
    IfOk-weaker c.policy_to_text.result (λ text. string_bytes text ≡ policy_text c.args.self.now) (λ text. Spells (string_bytes text) c.args.self.now)
    (λ text e. policy_of-found (string_bytes text) c.args.self.now (ap policy_of e ∙ reads_back c.args.self.now (subst P c.self.view_is c.self.invariant)))
    c.policy_to_text.ensures
