-- Laws of numbers in network byte order.
use Rattle.std.proofs.Common.{inl, inr, take, drop, ◌≡◌, ℕ, zero, suc, ◌+◌, ◌*◌, ◌/◌, ◌%◌, ◌^◌, ◌<◌, ◌≤◌, List, [], ◌∷◌, ◌++◌, length, refl, sym, ap, ◌∙◌, arith, length-append}
use Rattle.std.proofs.Math.Nat.{add-mul, mul_assoc, one-le-pow, pow-succ', mod-eq_of_lt, div-one, mul-le-mul_right}
use Rattle.std.proofs.Math.Arith.{mod-mul}
use Rattle.std.proofs.lemmas.Nat.{pow-add}
use Rattle.std.specs.Int.{byte_at}
use Rattle.std.proofs.lemmas.Bool.{cases_lt}
use Rattle.std.proofs.lemmas.List.{length-take, get_or-drop, get_or-take, get_or_past}
use Rattle.sequences.specs.Octets.{be_value, be_octets, AreOctets}

pub length-be_octets : (width n : ℕ) → length (be_octets width n) ≡ width
length-be_octets zero n = refl
length-be_octets (suc width) n = let e = length-be_octets width n in omega (arith, e)

-- an octet of a number, by its place
pub byte_at-pow : (k n : ℕ) → byte_at k n ≡ n / 256 ^ k % 256
byte_at-pow zero n = ap (λ (m : ℕ). m % 256) (sym (div-one n))
byte_at-pow (suc k) n = refl

pub pow_positive : (k : ℕ) → 0 < 256 ^ k
pow_positive k = let h = one-le-pow k 256 (omega arith) in omega arith

-- a number that is written in too few octets loses its high digits
be_value-be_octets_rest : (width n : ℕ) → be_value (be_octets width n) ≡ n % 256 ^ width
be_value-be_octets_rest zero n = omega arith
be_value-be_octets_rest (suc width) n =
    let split = mod-mul n {m = 256} {c = 256 ^ width} (omega arith) (pow_positive width) in
    rw (length-be_octets width n, be_value-be_octets_rest width n, byte_at-pow width n, pow-succ' 256 width, split) refl

-- what is written is read back
pub be_value-be_octets : (width n : ℕ) → n < 256 ^ width → be_value (be_octets width n) ≡ n
be_value-be_octets width n below = be_value-be_octets_rest width n ∙ mod-eq_of_lt below

pub be_value-append : (xs ys : List ℕ) → be_value (xs ++ ys) ≡ be_value xs * 256 ^ length ys + be_value ys
be_value-append [] ys = omega arith
be_value-append (x ∷ xs) ys =
    let rest = be_value-append xs ys in
    let power : 256 ^ length (xs ++ ys) ≡ 256 ^ length xs * 256 ^ length ys = ap (λ (k : ℕ). 256 ^ k) (length-append xs ys) ∙ pow-add 256 (length xs) (length ys) in
    let first : x * (256 ^ length xs * 256 ^ length ys) ≡ x * 256 ^ length xs * 256 ^ length ys = sym (mul_assoc x (256 ^ length xs) (256 ^ length ys)) in
    let joined : (x * 256 ^ length xs + be_value xs) * 256 ^ length ys ≡ x * 256 ^ length xs * 256 ^ length ys + be_value xs * 256 ^ length ys = add-mul (x * 256 ^ length xs) (be_value xs) (256 ^ length ys) in
    rw (rest, power, first, joined) (omega arith)

pub AreOctets-rest : (x : ℕ) (xs : List ℕ) → AreOctets (x ∷ xs) → AreOctets xs
AreOctets-rest x xs h i = h (suc i)

-- a number of so many octets is below 256 to their number
pub be_value-below : (octets : List ℕ) → AreOctets octets → be_value octets < 256 ^ length octets
be_value-below [] h = omega arith
be_value-below (x ∷ xs) h =
    let rest = be_value-below xs (AreOctets-rest x xs h) in
    let digit = h 0 in
    let scaled : (x + 1) * 256 ^ length xs ≤ 256 * 256 ^ length xs = mul-le-mul_right (256 ^ length xs) (omega arith) in
    let expanded : (x + 1) * 256 ^ length xs ≡ x * 256 ^ length xs + 1 * 256 ^ length xs = add-mul x 1 (256 ^ length xs) in
    rw (pow-succ' 256 (length xs)) (omega arith)

pub AreOctets-drop : (n : ℕ) (octets : List ℕ) → AreOctets octets → AreOctets (drop n octets)
AreOctets-drop n octets h i = rw get_or-drop (h (n + i))

pub AreOctets-take : (n : ℕ) (octets : List ℕ) → AreOctets octets → AreOctets (take n octets)
AreOctets-take n octets h i =
    elim (cases_lt i n) [
      | inl lt ↦ rw (get_or-take n octets i 0 lt) (h i)
      | inr le ↦ rw (get_or_past (take n octets) i 0 (omega (arith, length-take n octets))) (omega arith)
    ]
