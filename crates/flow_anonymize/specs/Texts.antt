-- What is shown of values, as the octets of a Data Set spell them (RFC 7011, section 7).
use Rattle.std.specs.Prelude.{ℕ, List, [], ◌∷◌, ◌++◌}
use Rattle.ipfix_template.specs.declared.field.FieldSpec.{FieldSpec}
use Rattle.ipfix_template.specs.Values.{value_text}
use Rattle.policy_judge.specs.declared.verdict.ElementAction.{ElementAction}
use Rattle.policy_judge.specs.declared.verdict.ElementAction.TheVariants.{Keep, Remove, Truncate, Degrade}
use Rattle.policy_judge.specs.declared.verdict.ElementVerdict.{ElementVerdict}
use Rattle.flow_prefix.specs.Bits.{kept_octets}
use Rattle.flow_anonymize.specs.Times.{degraded_octets}

-- of one value, in its shortest text
abbrev pub shown_text : FieldSpec → List ℕ → ElementAction → List ℕ
shown_text field value Keep = value_text field value
shown_text field value Remove = []
shown_text field value (Truncate bits) = value_text field (kept_octets bits value)
shown_text field value (Degrade seconds) = value_text field (degraded_octets seconds value)

-- of the values of fields, one after another
abbrev pub shown_texts : List (FieldSpec × List ℕ) → List ElementVerdict → List ℕ
shown_texts [] verdicts = []
shown_texts (entry ∷ entries) [] = []
shown_texts (entry ∷ entries) (verdict ∷ verdicts) = shown_text entry.0 entry.1 verdict.action ++ shown_texts entries verdicts
