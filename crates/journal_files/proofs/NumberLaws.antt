-- A number is written by the octets that it was read from.
use Rattle.std.proofs.Common.{◌≡◌, ℕ, zero, suc, ◌+◌, ◌*◌, ◌/◌, ◌%◌, ◌^◌, ◌<◌, List, [], ◌∷◌, length, refl, sym, ap, ◌∙◌, arith}
use Rattle.std.proofs.Math.Nat.{mul_assoc, pow-succ', add-mul-div_right, add-mul-mod_self_right, mod-eq_of_lt}
use Rattle.std.proofs.lemmas.Nat.{pow-add, div-mul-add}
use Rattle.std.specs.Int.{byte_at}
use Rattle.sequences.specs.Octets.{be_value, be_octets, AreOctets, IsNumberIn}
use Rattle.sequences.proofs.OctetLaws.{byte_at-pow, pow_positive, length-be_octets, be_value-be_octets, be_value-below, AreOctets-rest}

-- what stands above an octet doesn't change it
byte_below : (k j c m : ℕ) → byte_at k (m + c * 256 ^ (suc k + j)) ≡ byte_at k m
byte_below k j c m =
    let places : suc k + j ≡ suc j + k = omega arith in
    let power : 256 ^ (suc k + j) ≡ 256 ^ suc j * 256 ^ k = ap (λ (i : ℕ). 256 ^ i) places ∙ pow-add 256 (suc j) k in
    let high : c * 256 ^ suc j ≡ c * 256 ^ j * 256 = ap (λ (i : ℕ). c * i) (pow-succ' 256 j) ∙ omega arith in
    let scaled : c * 256 ^ (suc k + j) ≡ c * 256 ^ j * 256 * 256 ^ k = ap (λ (i : ℕ). c * i) power ∙ sym (mul_assoc c (256 ^ suc j) (256 ^ k)) ∙ ap (λ (i : ℕ). i * 256 ^ k) high in
    let divided : (m + c * 256 ^ (suc k + j)) / 256 ^ k ≡ m / 256 ^ k + c * 256 ^ j * 256 = ap (λ (i : ℕ). (m + i) / 256 ^ k) scaled ∙ add-mul-div_right m (c * 256 ^ j * 256) (pow_positive k) in
    byte_at-pow k (m + c * 256 ^ (suc k + j)) ∙ ap (λ (i : ℕ). i % 256) divided ∙ add-mul-mod_self_right (m / 256 ^ k) (c * 256 ^ j) 256 ∙ sym (byte_at-pow k m)

octets_below : (k j c m : ℕ) → be_octets k (m + c * 256 ^ (k + j)) ≡ be_octets k m
octets_below zero j c m = refl
octets_below (suc k) j c m =
    let places : suc k + j ≡ k + suc j = omega arith in
    let rest : be_octets k (m + c * 256 ^ (suc k + j)) ≡ be_octets k m = ap (λ (i : ℕ). be_octets k (m + c * 256 ^ i)) places ∙ octets_below k (suc j) c m in
    rw (byte_below k j c m, rest) refl

-- a number in as many octets as it was read from is those octets
pub be_octets-be_value : (octets : List ℕ) → AreOctets octets → be_octets (length octets) (be_value octets) ≡ octets
be_octets-be_value [] are = refl
be_octets-be_value (x ∷ xs) are =
    let k = length xs in
    let rest = be_value-below xs (AreOctets-rest x xs are) in
    let small : x < 256 = are 0 in
    let first : byte_at k (x * 256 ^ k + be_value xs) ≡ x = byte_at-pow k (x * 256 ^ k + be_value xs) ∙ ap (λ (i : ℕ). i % 256) (div-mul-add x (256 ^ k) (be_value xs) rest) ∙ mod-eq_of_lt small in
    let none : k ≡ k + 0 = omega arith in
    let turned : x * 256 ^ k + be_value xs ≡ be_value xs + x * 256 ^ (k + 0) = ap (λ (i : ℕ). x * 256 ^ i + be_value xs) none ∙ omega arith in
    let others : be_octets k (x * 256 ^ k + be_value xs) ≡ xs = ap (be_octets k) turned ∙ octets_below k 0 x (be_value xs) ∙ be_octets-be_value xs (AreOctets-rest x xs are) in
    rw (first, others) refl

-- a number in its octets
pub written_number : (width n : ℕ) → n < 256 ^ width → IsNumberIn width (be_octets width n) n
written_number width n below = record { wide = length-be_octets width n; value = be_value-be_octets width n below }
