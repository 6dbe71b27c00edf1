use Rattle.std.proofs.Common.{ℕ, ◌≡◌, ◌+◌, Option, Some, None, List, take, drop, arith, ap, ◌∙◌, sym}
use Rattle.std.specs.Prelude.{IfSome}
use Rattle.sequences.specs.Octets.{AreOctets}
use Rattle.ipfix_octets.specs.Variable.{IsVarText, varlen_at}
use Rattle.ipfix_octets.proofs.VariableLaws.{varlen_at-found, varlen_at-only}
use Rattle.ipfix_octets.proofs.variable.read_varlen.Goals as goal

found_by : (octets : List ℕ) (answer : Option (ℕ × ℕ)) → AreOctets octets → answer ≡ varlen_at octets → IfSome answer (λ f. IsVarText (take (f.0 + f.1) octets) (take f.1 (drop f.0 octets)))
found_by octets None fits e = tt
found_by octets (Some f) fits e = varlen_at-found octets fits f (sym e)

pub returns-clause-found : goal.returns-clause-found
returns-clause-found c =
    found_by c.args.octets.now _ (λ i. omega (arith, c.type_inv.octets i)) c.find_value.ensures.exact

pub returns-clause-only : goal.returns-clause-only
returns-clause-only c = λ text value rest e is. c.find_value.ensures.exact ∙ ap varlen_at e ∙ varlen_at-only text value rest is
