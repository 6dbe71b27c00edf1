-- Octets with their first bits kept, one by one and as a number.
use Rattle.std.proofs.Common.{◌≡◌, ℕ, zero, suc, ◌+◌, ◌-◌, ◌*◌, ◌/◌, ◌%◌, ◌^◌, ◌<◌, ◌≤◌, min, List, [], ◌∷◌, length, get_or, take, refl, sym, ap, ◌∙◌, arith, ⊎_elim}
use Rattle.std.specs.Int.{byte_at}
use Rattle.std.proofs.Math.Nat.{pow-succ', mul_assoc, mul_comm, add-mul, mul-add-div_right, div-div-eq-div-mul, div-mul-le_self, mod-eq_of_lt, div-eq_of_lt}
use Rattle.std.proofs.lemmas.Nat.{pow-add, pow_pos, div-mul-add}
use Rattle.std.proofs.lemmas.Bool.{cases_lt}
use Rattle.std.proofs.lemmas.List.{take_more}
use Rattle.sequences.specs.Octets.{be_value, be_octets, AreOctets}
use Rattle.sequences.proofs.OctetLaws.{byte_at-pow, be_value-append, be_value-below, be_value-be_octets, length-be_octets, pow_positive, AreOctets-rest}
use Rattle.flow_prefix.specs.Bits.{truncated, kept_octets, KeepsBits}
use Rattle.flow_prefix.proofs.PowerLaws.{octet_power}

-- one octet more of a number
pub be_value-more : (octets : List ℕ) (i : ℕ) → i < length octets → be_value (take (i + 1) octets) ≡ be_value (take i octets) * 256 + get_or octets i 0
be_value-more octets i h = ap be_value (take_more octets i 0 h) ∙ be_value-append (take i octets) (get_or octets i 0 ∷ []) ∙ omega arith

-- the first n bits of octets, octet by octet
abbrev pub kept_from : ℕ → List ℕ → List ℕ
kept_from n [] = []
kept_from n (octet ∷ octets) = truncated 8 (min n 8) octet ∷ kept_from (n - min n 8) octets

-- what stands above the lowest octets isn't in them
be_octets-above : (j c m : ℕ) → be_octets j (c * 256 ^ j + m) ≡ be_octets j m
be_octets-above zero c m = refl
be_octets-above (suc j) c m =
    let above : c * 256 ^ suc j ≡ c * 256 * 256 ^ j = ap (λ p. c * p) (pow-succ' 256 j) ∙ sym (mul_assoc c 256 (256 ^ j)) in
    let quotient : (c * 256 * 256 ^ j + m) / 256 ^ j ≡ c * 256 + m / 256 ^ j = mul-add-div_right (pow_positive j) (c * 256) m in
    let octet : byte_at j (c * 256 ^ suc j + m) ≡ byte_at j m =
    byte_at-pow j (c * 256 ^ suc j + m) ∙ ap (λ p. (p + m) / 256 ^ j % 256) above ∙ ap (λ q. q % 256) quotient ∙ omega arith ∙ sym (byte_at-pow j m) in
    let rest : be_octets j (c * 256 ^ suc j + m) ≡ be_octets j m = ap (λ p. be_octets j (p + m)) above ∙ be_octets-above j (c * 256) m in
    rw (octet, rest) refl

-- all of the first octet is kept
truncated-after : (k n octet rest : ℕ) → 8 ≤ n → truncated (8 * suc k) n (octet * 256 ^ k + rest) ≡ octet * 256 ^ k + truncated (8 * k) (n - 8) rest
truncated-after k n octet rest h =
    let s = 8 * k - (n - 8) in
    let same : 8 * suc k - n ≡ s = omega arith in
    let parts : 256 ^ k ≡ 2 ^ (8 * k - s) * 2 ^ s = octet_power k ∙ ap (λ m. 2 ^ m) (let e : 8 * k ≡ (8 * k - s) + s = omega arith in e) ∙ pow-add 2 (8 * k - s) s in
    let scaled : octet * 256 ^ k ≡ octet * 2 ^ (8 * k - s) * 2 ^ s = ap (λ p. octet * p) parts ∙ sym (mul_assoc octet (2 ^ (8 * k - s)) (2 ^ s)) in
    let quotient : (octet * 2 ^ (8 * k - s) * 2 ^ s + rest) / 2 ^ s ≡ octet * 2 ^ (8 * k - s) + rest / 2 ^ s = mul-add-div_right (pow_pos s) (octet * 2 ^ (8 * k - s)) rest in
    let product : (octet * 2 ^ (8 * k - s) + rest / 2 ^ s) * 2 ^ s ≡ octet * 2 ^ (8 * k - s) * 2 ^ s + rest / 2 ^ s * 2 ^ s = add-mul (octet * 2 ^ (8 * k - s)) (rest / 2 ^ s) (2 ^ s) in
    rw (same, scaled, quotient, product) refl

-- only some of the first octet is kept
truncated-within : (k n octet rest : ℕ) → n ≤ 8 → rest < 256 ^ k → truncated (8 * suc k) n (octet * 256 ^ k + rest) ≡ truncated 8 n octet * 256 ^ k
truncated-within k n octet rest h below =
    let d = 2 ^ (8 - n) in
    let parts : 2 ^ (8 * suc k - n) ≡ 256 ^ k * d = ap (λ m. 2 ^ m) (let e : 8 * suc k - n ≡ 8 * k + (8 - n) = omega arith in e) ∙ pow-add 2 (8 * k) (8 - n) ∙ ap (λ p. p * d) (sym (octet_power k)) in
    let quotient : (octet * 256 ^ k + rest) / (256 ^ k * d) ≡ octet / d = sym (div-div-eq-div-mul (octet * 256 ^ k + rest) (256 ^ k) d) ∙ ap (λ q. q / d) (div-mul-add octet (256 ^ k) rest below) in
    let turned : octet / d * (256 ^ k * d) ≡ octet / d * d * 256 ^ k = ap (λ p. octet / d * p) (mul_comm (256 ^ k) d) ∙ sym (mul_assoc (octet / d) d (256 ^ k)) in
    rw (parts, quotient, turned) refl

truncated-le : (w n v : ℕ) → truncated w n v ≤ v
truncated-le w n v = div-mul-le_self v (2 ^ (w - n))

-- nothing kept is nothing
truncated-none : (k v : ℕ) → v < 256 ^ k → truncated (8 * k) 0 v ≡ 0
truncated-none k v below =
    let below_power : v < 2 ^ (8 * k) = rw octet_power at below in
    let quotient : v / 2 ^ (8 * k) ≡ 0 = div-eq_of_lt below_power in
    let same : 8 * k - 0 ≡ 8 * k = omega arith in
    rw (same, quotient) (omega arith)

first_after : (k n octet rest : ℕ) → octet < 256 → rest < 256 ^ k → 8 ≤ n → byte_at k (octet * 256 ^ k + truncated (8 * k) (n - 8) rest) ≡ octet
first_after k n octet rest small below h =
    let under = truncated-le (8 * k) (n - 8) rest in
    byte_at-pow k (octet * 256 ^ k + truncated (8 * k) (n - 8) rest)
    ∙ ap (λ q. q % 256) (div-mul-add octet (256 ^ k) (truncated (8 * k) (n - 8) rest) (omega (arith, under, below)))
    ∙ mod-eq_of_lt small

step_after : (n octet : ℕ) (octets : List ℕ) → octet < 256 → AreOctets octets → 8 ≤ n → kept_octets n (octet ∷ octets) ≡ octet ∷ kept_octets (n - 8) octets
step_after n octet octets small all h =
    let k = length octets in
    let below = be_value-below octets all in
    let value = truncated-after k n octet (be_value octets) h in
    let first = first_after k n octet (be_value octets) small below h in
    let rest = be_octets-above k octet (truncated (8 * k) (n - 8) (be_value octets)) in
    rw (value, first, rest) refl

first_within : (k t : ℕ) → t < 256 → byte_at k (t * 256 ^ k) ≡ t
first_within k t small =
    let positive = pow_positive k in
    let e : t * 256 ^ k ≡ t * 256 ^ k + 0 = omega arith in
    byte_at-pow k (t * 256 ^ k) ∙ ap (λ m. m / 256 ^ k % 256) e ∙ ap (λ q. q % 256) (div-mul-add t (256 ^ k) 0 positive) ∙ mod-eq_of_lt small

step_within : (n octet : ℕ) (octets : List ℕ) → octet < 256 → AreOctets octets → n ≤ 8 → kept_octets n (octet ∷ octets) ≡ truncated 8 n octet ∷ kept_octets 0 octets
step_within n octet octets small all h =
    let k = length octets in
    let below = be_value-below octets all in
    let value = truncated-within k n octet (be_value octets) h below in
    let under = truncated-le 8 n octet in
    let first = first_within k (truncated 8 n octet) (omega (arith, under)) in
    let none = truncated-none k (be_value octets) below in
    let e : truncated 8 n octet * 256 ^ k ≡ truncated 8 n octet * 256 ^ k + 0 = omega arith in
    let rest : be_octets k (truncated 8 n octet * 256 ^ k) ≡ be_octets k 0 = ap (be_octets k) e ∙ be_octets-above k (truncated 8 n octet) 0 in
    rw (value, first, rest, none) refl

-- octet by octet is as one number
pub kept_from-octets : (n : ℕ) (octets : List ℕ) → AreOctets octets → kept_from n octets ≡ kept_octets n octets
kept_from-octets n [] all = refl
kept_from-octets n (octet ∷ octets) all =
    let rest = kept_from-octets (n - min n 8) octets (AreOctets-rest octet octets all) in
    let small = all 0 in
    ⊎_elim (λ (h : n < 8).
    let few : min n 8 ≡ n = omega arith in
    let none : n - n ≡ 0 = omega arith in
    let step = step_within n octet octets small (AreOctets-rest octet octets all) (omega arith) in
    rw (rest, few, none, step) refl)
    (λ (h : 8 ≤ n).
    let all_kept : min n 8 ≡ 8 = omega arith in
    let whole : truncated 8 8 octet ≡ octet = omega arith in
    let step = step_after n octet octets small (AreOctets-rest octet octets all) h in
    rw (rest, all_kept, step) (ap (λ t. t ∷ kept_octets (n - 8) octets) whole))
    (cases_lt n 8)

-- the two marks of kept bits
pub KeepsBits-kept_octets : (n : ℕ) (octets : List ℕ) → AreOctets octets → KeepsBits n octets (kept_octets n octets)
KeepsBits-kept_octets n octets all =
    let under = truncated-le (8 * length octets) n (be_value octets) in
    let below = be_value-below octets all in
    record {
      wide = length-be_octets (length octets) (truncated (8 * length octets) n (be_value octets));
      value = be_value-be_octets (length octets) (truncated (8 * length octets) n (be_value octets)) (omega (arith, under, below));
    }
