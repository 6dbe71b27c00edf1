-- Addresses from the parts that were counted.
use Rattle.std.proofs.Common.{◌≡◌, ℕ, zero, suc, ◌+◌, ◌-◌, ◌*◌, ◌^◌, ◌<◌, ◌≤◌, leb, List, [], ◌∷◌, ◌++◌, length, replicate, Option, Some, None, refl, sym, ap, ◌∙◌, arith, ⊎_elim}
use Rattle.std.specs.Int.Digits.{number_from_digits, number_from_digits_after}
use Rattle.std.proofs.lemmas.Int.Digits.{number_after_append}
use Rattle.std.proofs.Math.Nat.{pow-zero, pow-succ', mul_assoc, add-mul}
use Rattle.std.proofs.lemmas.Nat.{pow-add}
use Rattle.std.proofs.lemmas.Option.{cond_some, none-some}
use Rattle.std.proofs.lemmas.Bool.{cases_lt, le-leb, lt-ltb, le-ltb, eq-eqb, ne_eqb}
use Rattle.sequences.specs.Options.{◌>>=◌}
use Rattle.flow_prefix.specs.declared.family.Family.{Family}
use Rattle.flow_prefix.specs.declared.family.Family.TheVariants.{Ipv4, Ipv6}
use Rattle.flow_prefix.specs.declared.parts.Parts.{Parts}
use Rattle.flow_prefix.specs.Family.{places, base, width}
use Rattle.flow_prefix.specs.Parts.{added_parts, counted_parts}
use Rattle.flow_prefix.specs.Reading.{whole, number_in, with_zeros, groups_of, all_parts_of, address_of, long_or_short, at_double, parts_of}

-- what the count and the number of parts say of them
pub record Counts (family : Family) (parts : List ℕ) (p : Parts) : Type 0 where
  pub count : p.count ≡ length parts
  pub value : p.value ≡ number_from_digits (base family) parts

pub counted-some : (family : Family) (parts : List ℕ) (p : Parts) → counted_parts family (Some parts) ≡ Some p → Counts family parts p
unfolding added_parts
counted-some family parts p e =
    let chosen = cond_some (leb (0 + length parts) (places family)) (record { count = 0 + length parts; value = number_from_digits (base family) parts }) p e in
    let count : p.count ≡ 0 + length parts = sym (ap (λ (q : Parts). q.count) chosen.1) in
    record { count = omega (arith, count); value = sym (ap (λ (q : Parts). q.value) chosen.1) }

pub counted-none : (family : Family) (parts : List ℕ) → counted_parts family (Some parts) ≡ None → places family < length parts
unfolding added_parts
counted-none family parts e =
    ⊎_elim (λ (room : places family < length parts). room)
    (λ (fits : length parts ≤ places family). absurd (none-some _ (sym (rw (le-leb (0 + length parts) (places family) (omega arith)) at e))))
    (cases_lt (places family) (length parts))

-- an address all of whose parts are written
pub whole-some : (family : Family) (read : Option (List ℕ)) (p : Parts) → counted_parts family read ≡ Some p → p.count ≡ places family → number_in family (read >>= whole family) ≡ Some p.value
unfolding added_parts
whole-some family None p e all = absurd (none-some p e)
whole-some family (Some parts) p e all =
    let counts = counted-some family parts p e in
    let count = counts.count in
    let test = eq-eqb (length parts) (places family) (omega arith) in
    rw test (ap (λ (n : ℕ). Some n) (sym counts.value))

pub whole-other : (family : Family) (read : Option (List ℕ)) (p : Parts) → counted_parts family read ≡ Some p → (p.count ≡ places family → ⊥) → number_in family (read >>= whole family) ≡ None
unfolding added_parts
whole-other family None p e other = refl
whole-other family (Some parts) p e other =
    let counts = counted-some family parts p e in
    let test = ne_eqb (length parts) (places family) (λ same. other (counts.count ∙ same)) in
    rw test refl

pub whole-none : (family : Family) (read : Option (List ℕ)) → counted_parts family read ≡ None → number_in family (read >>= whole family) ≡ None
whole-none family None e = refl
whole-none family (Some parts) e =
    let long = counted-none family parts e in
    let test = ne_eqb (length parts) (places family) (λ same. omega arith) in
    rw test refl

-- digits after those of a number
pub digits_after : (b n : ℕ) (ds : List ℕ) → number_from_digits_after b n ds ≡ n * b ^ length ds + number_from_digits b ds
digits_after b n [] = let e : n * b ^ 0 + 0 ≡ n = ap (λ m. n * m + 0) (pow-zero b) ∙ omega arith in sym e
digits_after b n (d ∷ ds) =
    let k = length ds in
    let one = digits_after b (n * b + d) ds in
    let other = digits_after b (0 * b + d) ds in
    let first : (n * b + d) * b ^ k ≡ n * b * b ^ k + d * b ^ k = add-mul (n * b) d (b ^ k) in
    let power : n * b ^ suc k ≡ n * b * b ^ k = ap (λ p. n * p) (pow-succ' b k) ∙ sym (mul_assoc n b (b ^ k)) in
    let zero_first : (0 * b + d) * b ^ k ≡ d * b ^ k = ap (λ m. m * b ^ k) (let z : 0 * b + d ≡ d = omega arith in z) in
    omega (arith, one, other, first, power, zero_first)

pub zeros_after : (b n zeros : ℕ) → number_from_digits_after b n (replicate zeros 0) ≡ n * b ^ zeros
zeros_after b n zero = let e : n * b ^ 0 ≡ n = ap (λ m. n * m) (pow-zero b) ∙ omega arith in sym e
zeros_after b n (suc zeros) =
    let rest = zeros_after b (n * b + 0) zeros in
    let same : n * b + 0 ≡ n * b = omega arith in
    rest ∙ ap (λ m. m * b ^ zeros) same ∙ mul_assoc n b (b ^ zeros) ∙ ap (λ p. n * p) (sym (pow-succ' b zeros))

filled_number : (b zeros : ℕ) (left right : List ℕ) → number_from_digits b (left ++ replicate zeros 0 ++ right) ≡ number_from_digits b left * b ^ (zeros + length right) + number_from_digits b right
filled_number b zeros left right =
    let n = number_from_digits b left in
    number_after_append b 0 (left ++ replicate zeros 0) right
    ∙ ap (λ m. number_from_digits_after b m right) (number_after_append b 0 left (replicate zeros 0) ∙ zeros_after b n zeros)
    ∙ digits_after b (n * b ^ zeros) right
    ∙ ap (λ m. m + number_from_digits b right) (mul_assoc n (b ^ zeros) (b ^ length right) ∙ ap (λ p. n * p) (sym (pow-add b zeros (length right))))

-- both sides of a `::`
pub sides-some : (left right : Option (List ℕ)) (p q : Parts) → counted_parts Ipv6 left ≡ Some p → counted_parts Ipv6 right ≡ Some q → p.count + q.count < 8 → number_in Ipv6 (left >>= λ ls. right >>= λ rs. with_zeros ls rs) ≡ Some (p.value * 65536 ^ (8 - p.count) + q.value)
unfolding added_parts
sides-some None right p q e f room = absurd (none-some p e)
sides-some (Some ls) None p q e f room = absurd (none-some q f)
sides-some (Some ls) (Some rs) p q e f room =
    let one = counted-some Ipv6 ls p e in
    let other = counted-some Ipv6 rs q f in
    let c = one.count in
    let d = other.count in
    let test = lt-ltb (length ls + length rs) 8 (omega arith) in
    let number = filled_number 65536 (8 - (length ls + length rs)) ls rs in
    let place : 8 - (length ls + length rs) + length rs ≡ 8 - p.count = omega arith in
    rw test (ap (λ (n : ℕ). Some n) (number ∙ ap (λ k. number_from_digits 65536 ls * 65536 ^ k + number_from_digits 65536 rs) place ∙ rw (one.value, other.value) refl))

pub sides-full : (left right : Option (List ℕ)) (p q : Parts) → counted_parts Ipv6 left ≡ Some p → counted_parts Ipv6 right ≡ Some q → 8 ≤ p.count + q.count → number_in Ipv6 (left >>= λ ls. right >>= λ rs. with_zeros ls rs) ≡ None
sides-full None right p q e f full = refl
sides-full (Some ls) None p q e f full = refl
sides-full (Some ls) (Some rs) p q e f full =
    let one = counted-some Ipv6 ls p e in
    let other = counted-some Ipv6 rs q f in
    let c = one.count in
    let d = other.count in
    let test = le-ltb (length ls + length rs) 8 (omega arith) in
    rw test refl

pub sides-no_left : (left right : Option (List ℕ)) → counted_parts Ipv6 left ≡ None → number_in Ipv6 (left >>= λ ls. right >>= λ rs. with_zeros ls rs) ≡ None
sides-no_left None right e = refl
sides-no_left (Some ls) None e = refl
sides-no_left (Some ls) (Some rs) e =
    let long = counted-none Ipv6 ls e in
    let test = le-ltb (length ls + length rs) 8 (omega arith) in
    rw test refl

pub sides-no_right : (left right : Option (List ℕ)) → counted_parts Ipv6 right ≡ None → number_in Ipv6 (left >>= λ ls. right >>= λ rs. with_zeros ls rs) ≡ None
sides-no_right None right e = refl
sides-no_right (Some ls) None e = refl
sides-no_right (Some ls) (Some rs) e =
    let long = counted-none Ipv6 rs e in
    let test = le-ltb (length ls + length rs) 8 (omega arith) in
    rw test refl

pub whole_power : (family : Family) → base family ^ places family ≡ 2 ^ width family
whole_power Ipv4 = refl
whole_power Ipv6 = refl

pub address4-whole : (text : List ℕ) → address_of Ipv4 text ≡ number_in Ipv4 (parts_of Ipv4 text >>= whole Ipv4)
unfolding address_of all_parts_of
address4-whole text = refl

pub address6-long : (text : List ℕ) → at_double text ≡ None → address_of Ipv6 text ≡ number_in Ipv6 (parts_of Ipv6 text >>= whole Ipv6)
unfolding address_of all_parts_of
address6-long text e = ap (λ sides. number_in Ipv6 (long_or_short text sides)) e

pub address6-short : (text before after : List ℕ) → at_double text ≡ Some (before, after) → address_of Ipv6 text ≡ number_in Ipv6 (groups_of before >>= λ left. groups_of after >>= λ right. with_zeros left right)
unfolding address_of all_parts_of
address6-short text before after e = ap (λ sides. number_in Ipv6 (long_or_short text sides)) e
