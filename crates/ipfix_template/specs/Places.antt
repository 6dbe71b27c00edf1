-- Where the values of a record lie in its octets.
use Rattle.std.specs.Prelude.{◌≡◌, ◌≤◌, ℕ, true, List, length, drop}
use Rattle.ipfix_template.specs.declared.field.FieldSpec.{FieldSpec}
use Rattle.ipfix_template.specs.Values.{values_in, fit_fields, record_text}

-- the octets are values that fit the fields, each in its shortest text, one after another
pub record AreKept (fields : List FieldSpec) (octets : List ℕ) : Type 0 where
  pub fit : fit_fields fields (values_in fields octets) ≡ true
  pub shortest : octets ≡ record_text fields (values_in fields octets)

-- the values of the fields before this place are the first so many octets: those of the others stand behind them
pub record ArePassed (fields : List FieldSpec) (octets : List ℕ) (place used : ℕ) : Type 0 where
  pub within : used ≤ length octets
  pub left : drop used octets ≡ record_text (drop place fields) (drop place (values_in fields octets))
