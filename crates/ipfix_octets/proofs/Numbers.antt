-- How a number grows by one more octet, and that eight octets hold it.
use Rattle.std.proofs.Common.{inl, inr, ◌≡◌, ℕ, zero, suc, ◌+◌, ◌-◌, ◌*◌, ◌^◌, ◌<◌, ◌≤◌, List, [], ◌∷◌, take, drop, length, get_or, refl, ap, ◌∙◌, arith}
use Rattle.std.specs.Int.{bytes_high_first}
use Rattle.std.proofs.Math.Nat.{pow-le-pow_right, pow-succ', mul-le-mul_right}
use Rattle.std.proofs.lemmas.List.{take_more, take_all}
use Rattle.std.proofs.lemmas.Bool.{cases_lt}
use Rattle.sequences.specs.Octets.{be_value}
use Rattle.sequences.proofs.OctetLaws.{be_value-append, length-be_octets}

-- one more octet behind the first i
pub number_steps : (octets : List ℕ) (i d : ℕ) → i < length octets → be_value (take (i + 1) octets) ≡ be_value (take i octets) * 256 + get_or octets i d
number_steps octets i d lt =
    ap be_value (take_more octets i d lt) ∙ be_value-append (take i octets) (get_or octets i d ∷ []) ∙ omega arith

-- with one more octet the number is still below its power of 256
pub below_more : (n i octet : ℕ) → n < 256 ^ i → octet < 256 → n * 256 + octet < 256 ^ (i + 1)
below_more n i octet below small =
    let power : 256 ^ (i + 1) ≡ 256 ^ i * 256 = ap (λ (k : ℕ). 256 ^ k) (omega arith) ∙ pow-succ' 256 i ∙ omega arith in
    let scaled : (n + 1) * 256 ≤ 256 ^ i * 256 = mul-le-mul_right 256 (omega arith) in
    omega arith

-- there is room for one more octet among eight
pub room_for_octet : (n i len : ℕ) → n < 256 ^ i → i < len → len ≤ 8 → n * 256 + 255 < 2 ^ 64
room_for_octet n i len below more few =
    let wide : 256 ^ (i + 1) ≤ 256 ^ 8 = pow-le-pow_right {n = 256} (omega arith) {i = i + 1} {j = 8} (omega arith) in
    let grown = below_more n i 255 below (omega arith) in
    omega arith

-- the last octets of a number are those of the narrower width
pub last_octets : (wide width n : ℕ) → width ≤ wide → drop (wide - width) (bytes_high_first wide n) ≡ bytes_high_first width n
last_octets zero width n le = let none : width ≡ 0 = omega arith in rw none refl
last_octets (suc wide) width n le =
    elim (cases_lt wide width) [
      | inl all ↦ let same : width ≡ suc wide = omega arith in rw same (let none : suc wide - suc wide ≡ 0 = omega arith in rw none refl)
      | inr some ↦ let one : suc wide - width ≡ suc (wide - width) = omega arith in rw one (last_octets wide width n some)
    ]

pub last_octets_taken : (width n : ℕ) → width ≤ 8 → take (8 - (8 - width)) (drop (8 - width) (bytes_high_first 8 n)) ≡ bytes_high_first width n
last_octets_taken width n le =
    rw (last_octets 8 width n le) (take_all (8 - (8 - width)) (bytes_high_first width n) (omega (arith, length-be_octets width n)))
