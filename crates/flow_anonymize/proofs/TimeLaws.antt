-- Times that are degraded.
use Rattle.std.proofs.Common.{◌≡◌, ℕ, ◌*◌, ◌/◌, ◌-◌, ◌^◌, ◌<◌, ◌≤◌, true, false, eqb, List, length, refl, sym, ap, ◌∙◌, subst, arith}
use Rattle.std.proofs.Math.Nat.{div-mul-le_self, div-eq_of_lt}
use Rattle.std.proofs.lemmas.Bool.{eqb-true}
use Rattle.sequences.specs.Octets.{be_value, be_octets, IsNumberIn, AreOctets}
use Rattle.sequences.proofs.OctetLaws.{length-be_octets, be_value-be_octets, be_value-below}
use Rattle.flow_prefix.specs.Bits.{truncated, kept_octets}
use Rattle.flow_prefix.proofs.PowerLaws.{octet_power}
use Rattle.ipfix_element.specs.declared.kind.Kind.{Kind}
use Rattle.ipfix_element.specs.declared.kind.Kind.TheVariants.{Seconds, Millis}
use Rattle.ipfix_element.specs.Kinds.{is_allowed_length}
use Rattle.ipfix_template.specs.declared.field.FieldSpec.{FieldSpec}
use Rattle.ipfix_template.specs.Values.{fits_field}
use Rattle.flow_anonymize.specs.Times.{step_of_time, multiple_below, degraded_octets, TimesAreDegraded}
use Rattle.flow_anonymize.proofs.Bounds.{fixed_length}

-- ---- its length and its number

pub degraded_long : (seconds : ℕ) (v : List ℕ) → length (degraded_octets seconds v) ≡ length v
degraded_long seconds v = length-be_octets (length v) _

lowered_below : (step n most : ℕ) → n < most → multiple_below step n < most
lowered_below step n most below =
    let within : multiple_below step n ≤ n = div-mul-le_self n step in
    omega (arith, within, below)

pub degraded_value : (seconds : ℕ) (v : List ℕ) → AreOctets v → be_value (degraded_octets seconds v) ≡ multiple_below (step_of_time (length v) seconds) (be_value v)
degraded_value seconds v octets =
    be_value-be_octets (length v) (multiple_below (step_of_time (length v) seconds) (be_value v))
    (lowered_below (step_of_time (length v) seconds) (be_value v) (256 ^ length v) (be_value-below v octets))

-- ---- by the kind of the element

-- values of these kinds have one length
seconds_long : (len : ℕ) → is_allowed_length Seconds len ≡ true → len ≡ 4
unfolding is_allowed_length
seconds_long len allowed = eqb-true len 4 allowed

millis_long : (len : ℕ) → is_allowed_length Millis len ≡ true → len ≡ 8
unfolding is_allowed_length
millis_long len allowed = eqb-true len 8 allowed

value_long : (f : FieldSpec) (v : List ℕ) (n : ℕ) → f.length ≡ n → eqb n 65535 ≡ false → fits_field f v ≡ true → length v ≡ n
value_long f v n long fixed fits = fixed_length f v (ap (λ (m : ℕ). eqb m 65535) long ∙ fixed) fits ∙ long

is_number : (seconds n step : ℕ) (v : List ℕ) → AreOctets v → length v ≡ n → step_of_time n seconds ≡ step → IsNumberIn n (degraded_octets seconds v) (be_value v / step * step)
is_number seconds n step v octets long is = record {
  wide = degraded_long seconds v ∙ long;
  value = degraded_value seconds v octets ∙ ap (λ (s : ℕ). multiple_below s (be_value v)) (ap (λ (m : ℕ). step_of_time m seconds) long ∙ is);
}

pub times_are_degraded : TimesAreDegraded
times_are_degraded f v seconds allowed fits octets = record {
  in_seconds = λ is.
      let P : Kind → Type 0 = λ kind. is_allowed_length kind f.length ≡ true in
      let long = value_long f v 4 (seconds_long f.length (subst P is allowed)) refl fits in
      let one : 1 * seconds ≡ seconds = omega arith in
      is_number seconds 4 seconds v octets long one;
  in_millis = λ is.
      let P : Kind → Type 0 = λ kind. is_allowed_length kind f.length ≡ true in
      let long = value_long f v 8 (millis_long f.length (subst P is allowed)) refl fits in
      is_number seconds 8 (1000 * seconds) v octets long (omega arith);
}

-- ---- what is no time

none_kept : (k n : ℕ) → n < 256 ^ k → truncated (8 * k) 0 n ≡ 0
none_kept k n below =
    let below_power : n < 2 ^ (8 * k) = rw octet_power at below in
    let quotient : n / 2 ^ (8 * k) ≡ 0 = div-eq_of_lt below_power in
    let same : 8 * k - 0 ≡ 8 * k = omega arith in
    rw (same, quotient) (omega arith)

none_lowered : (step n : ℕ) → step ≡ 0 → multiple_below step n ≡ 0
none_lowered step n none = let nothing : n / 0 * 0 ≡ 0 = omega arith in rw none nothing

pub no_time : (seconds : ℕ) (v : List ℕ) → AreOctets v → step_of_time (length v) seconds ≡ 0 → kept_octets 0 v ≡ degraded_octets seconds v
no_time seconds v octets none =
    ap (be_octets (length v)) (none_kept (length v) (be_value v) (be_value-below v octets))
    ∙ ap (be_octets (length v)) (sym (none_lowered (step_of_time (length v) seconds) (be_value v) none))
