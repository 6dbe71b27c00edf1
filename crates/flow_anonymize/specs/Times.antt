-- Times, and what is shown of one that is degraded (RFC 6235, section 4.3.1: precision degradation).
use Rattle.std.specs.Prelude.{◌≡◌, ℕ, ◌*◌, ◌/◌, true, List, length, ◌==◌, if◌then◌else◌}
use Rattle.sequences.specs.Octets.{be_value, be_octets, IsNumberIn, AreOctets}
use Rattle.ipfix_element.specs.declared.kind.Kind.{Kind}
use Rattle.ipfix_element.specs.declared.kind.Kind.TheVariants.{Seconds, Millis}
use Rattle.ipfix_element.specs.Kinds.{kind_of}
use Rattle.ipfix_template.specs.declared.field.FieldSpec.{FieldSpec}
use Rattle.ipfix_template.specs.Template.{has_allowed_length}
use Rattle.ipfix_template.specs.Values.{fits_field}

-- How many units of a time are a second, by the octets of its value: a time in seconds has 4 octets, and one in milliseconds
-- has 8 (RFC 7011, sections 6.1.7 and 6.1.8). Times are never of reduced size (section 6.2), so no other value is a time.
abbrev pub units_in_second : ℕ → ℕ
units_in_second octets = if octets == 4 then 1 else if octets == 8 then 1000 else 0

-- so many seconds, in the units of a time of so many octets
abbrev pub step_of_time : ℕ → ℕ → ℕ
step_of_time octets seconds = units_in_second octets * seconds

-- the greatest multiple of a step that is no greater than the number; 0 where the step is 0
abbrev pub multiple_below : ℕ → ℕ → ℕ
multiple_below step n = n / step * step

-- a time that is lowered to a multiple of so many seconds since 1970, in as many octets; zeros where the value is no time
abbrev pub degraded_octets : ℕ → List ℕ → List ℕ
degraded_octets seconds octets = be_octets (length octets) (multiple_below (step_of_time (length octets) seconds) (be_value octets))

-- what is shown of a field's value by the kind of its element, in as many octets: a law
pub record IsDegraded (kind : Kind) (seconds : ℕ) (value shown : List ℕ) : Type 0 where
  pub in_seconds : kind ≡ Seconds → IsNumberIn 4 shown (be_value value / seconds * seconds)
  pub in_millis : kind ≡ Millis → IsNumberIn 8 shown (be_value value / (1000 * seconds) * (1000 * seconds))

-- of each field that a template may have, and each value that the field may have
abbrev pub TimesAreDegraded : Type 0
TimesAreDegraded = (f : FieldSpec) (value : List ℕ) (seconds : ℕ) → has_allowed_length f ≡ true → fits_field f value ≡ true → AreOctets value
    → IsDegraded (kind_of f.element) seconds value (degraded_octets seconds value)
