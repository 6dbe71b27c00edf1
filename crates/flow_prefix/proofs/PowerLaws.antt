-- Powers of a base, and what fits below them.
use Rattle.std.proofs.Common.{◌≡◌, ℕ, zero, suc, ◌+◌, ◌*◌, ◌^◌, ◌<◌, ◌≤◌, refl, ap, ◌∙◌, arith, add-one, sym, ◌-◌}
use Rattle.std.proofs.Math.Nat.{pow-succ', one-le-pow, pow-le-pow_right, pow-suc, mul_assoc, add-mul, mul-le-mul_right}
use Rattle.std.proofs.lemmas.Nat.{mul-add-lt, pow-add}

-- one digit more
pub digit_below : (b count value digit : ℕ) → value < b ^ count → digit < b → value * b + digit < b ^ (count + 1)
digit_below b count value digit v d = rw (add-one, pow-succ') (mul-add-lt value b digit (b ^ count) v d)

pub power_up : (b : ℕ) → 0 < b → (i j : ℕ) → i ≤ j → b ^ i ≤ b ^ j
power_up b positive i j h = pow-le-pow_right positive h

pub power_positive : (b k : ℕ) → 0 < b → 0 < b ^ k
power_positive b k positive = omega (arith, one-le-pow k b positive)

-- one digit more, of a number of at most so many
pub digit_fits : (b count most value digit : ℕ) → value < b ^ count → digit < b → count < most → value * b + digit < b ^ most
digit_fits b count most value digit v d room =
    let below = digit_below b count value digit v d in
    let up = power_up b (omega arith) (count + 1) most (omega arith) in
    omega (arith, below, up)

mul-lt_right : (a b k : ℕ) → a < b → 0 < k → a * k < b * k
mul-lt_right a b k h positive = let up : (a + 1) * k ≤ b * k = mul-le-mul_right k (omega arith) in let e : (a + 1) * k ≡ a * k + 1 * k = add-mul a 1 k in omega (arith, up, e)

pub octet_power : (k : ℕ) → 256 ^ k ≡ 2 ^ (8 * k)
octet_power zero = refl
octet_power (suc k) =
    let rest = octet_power k in
    let e : 8 * suc k ≡ 8 + 8 * k = omega arith in
    rw (pow-succ' 256 k, e, pow-add 2 8 (8 * k), rest) refl

-- groups on the left of a `::`, moved to their place
pub left_place : (count value : ℕ) → count < 8 → value * 65536 ^ (7 - count) * 65536 ≡ value * 65536 ^ (8 - count)
left_place count value h =
    let e : 8 - count ≡ suc (7 - count) = omega arith in
    let power : 65536 ^ (8 - count) ≡ 65536 ^ (7 - count) * 65536 = ap (λ k. 65536 ^ k) e ∙ pow-suc 65536 (7 - count) in
    rw (power, mul_assoc value (65536 ^ (7 - count)) 65536) refl

pub left_below : (count value : ℕ) → count < 8 → value < 65536 ^ count → value * 65536 ^ (7 - count) < 65536 ^ 7
left_below count value h below =
    let positive = power_positive 65536 (7 - count) (omega arith) in
    let product : value * 65536 ^ (7 - count) < 65536 ^ count * 65536 ^ (7 - count) = mul-lt_right value (65536 ^ count) (65536 ^ (7 - count)) below positive in
    let power : 65536 ^ count * 65536 ^ (7 - count) ≡ 65536 ^ 7 = sym (pow-add 65536 count (7 - count)) ∙ ap (λ k. 65536 ^ k) (let e : count + (7 - count) ≡ 7 = omega arith in e) in
    omega (arith, product, power)

-- the groups on both sides stand beside each other
pub sides_below : (count other value rest : ℕ) → count + other < 8 → value < 65536 ^ count → rest < 65536 ^ other → value * 65536 ^ (8 - count) + rest < 65536 ^ 8
sides_below count other value rest room below small =
    let up = power_up 65536 (omega arith) other (8 - count) (omega arith) in
    let sum = mul-add-lt value (65536 ^ (8 - count)) rest (65536 ^ count) below (omega (arith, small, up)) in
    let power : 65536 ^ (8 - count) * 65536 ^ count ≡ 65536 ^ 8 = sym (pow-add 65536 (8 - count) count) ∙ ap (λ k. 65536 ^ k) (let e : 8 - count + count ≡ 8 = omega arith in e) in
    omega (arith, sum, power)
