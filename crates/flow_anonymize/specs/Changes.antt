-- What is shown of a value that is changed, in as many octets.
use Rattle.std.specs.Prelude.{ℕ, List}
use Rattle.flow_prefix.specs.Bits.{kept_octets}
use Rattle.flow_anonymize.specs.declared.change.Change.{Change}
use Rattle.flow_anonymize.specs.declared.change.Change.TheVariants.{Truncate, Degrade}
use Rattle.flow_anonymize.specs.Times.{degraded_octets}

abbrev pub changed_value : Change → List ℕ → List ℕ
changed_value (Truncate bits) value = kept_octets bits value
changed_value (Degrade seconds) value = degraded_octets seconds value
