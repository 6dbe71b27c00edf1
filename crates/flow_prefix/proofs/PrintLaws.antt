-- What is printed of a prefix is its text, and is read back.
use Rattle.std.proofs.Common.{◌≡◌, inl, ℕ, zero, suc, ◌+◌, ◌*◌, ◌/◌, ◌%◌, ◌^◌, ◌<◌, ◌≤◌, Bool, false, List, [], ◌∷◌, ◌++◌, length, map, refl, sym, ap, ◌∙◌, arith, ⊎_elim, append_assoc}
use Rattle.std.specs.List.{AllZip}
use Rattle.std.specs.Fmt.{digits, digits_onto, digit_glyph, decimal}
use Rattle.std.specs.Int.Digits.{number_from_digits}
use Rattle.std.proofs.lemmas.Fmt.{digits_is_IsNumeral}
use Rattle.std.proofs.lemmas.Bool.{cases_eq, eq-eqb, ne_eqb}
use Rattle.std.proofs.Math.Arith.{mod-mul}
use Rattle.std.proofs.Math.Nat.{pow-succ', pow-zero, mod-eq_of_lt, div-lt_iff_lt-mul, div-eq_of_lt}
use Rattle.flow_prefix.specs.declared.family.Family.{Family}
use Rattle.flow_prefix.specs.declared.family.Family.TheVariants.{Ipv4, Ipv6}
use Rattle.flow_prefix.specs.declared.prefix.Prefix.{Prefix}
use Rattle.flow_prefix.specs.declared.prefix.Prefix.TheVariants.{V4, V6}
use Rattle.flow_prefix.specs.Family.{places, base, width}
use Rattle.flow_prefix.specs.Net.{Net, IsNet}
use Rattle.flow_prefix.specs.Text.{IsPart, AreParts, WritesParts, IsAddress, IsPrefixForm, IsPrefixText}
use Rattle.flow_prefix.specs.Printing.{base_digits, part_text, address_text, net_text, prefix_text}
use Rattle.flow_prefix.specs.Prefixes.{IsPrefix, PrefixesReadBack}
use Rattle.flow_prefix.proofs.PowerLaws.{power_positive}
use Rattle.flow_prefix.proofs.AddressLaws.{digits_after, whole_power}
use Rattle.flow_prefix.proofs.PrefixLaws.{prefix_of-only}

pub length-base_digits : (b k n : ℕ) → length (base_digits b k n) ≡ k
length-base_digits b zero n = refl
length-base_digits b (suc k) n = let rest = length-base_digits b k n in omega (arith, rest)

-- digits of a number make the number
number-base_digits : (b k n : ℕ) → 0 < b → number_from_digits b (base_digits b k n) ≡ n % b ^ k
number-base_digits b zero n positive = let e : n % b ^ 0 ≡ 0 = ap (λ m. n % m) (pow-zero b) ∙ omega arith in sym e
number-base_digits b (suc k) n positive =
    let split = mod-mul n {m = b} {c = b ^ k} positive (power_positive b k positive) in
    let first : 0 * b + n / b ^ k % b ≡ n / b ^ k % b = omega arith in
    digits_after b (0 * b + n / b ^ k % b) (base_digits b k n)
    ∙ ap (λ d. d * b ^ length (base_digits b k n) + number_from_digits b (base_digits b k n)) first
    ∙ rw (length-base_digits b k n, number-base_digits b k n positive, pow-succ' b k, split) refl

-- as many digits as the number has at most
length-digits_onto : (k b : ℕ) (upper : Bool) (n m : ℕ) (rest : List ℕ) → 0 < b → n < b ^ suc m → length (digits_onto k b upper n rest) ≤ length rest + suc m
length-digits_onto zero b upper n m rest positive small = omega arith
length-digits_onto (suc k) b upper n zero rest positive small =
    let one : b ^ 1 ≡ b = pow-succ' b 0 ∙ ap (λ p. b * p) (pow-zero b) ∙ omega arith in
    let low : n / b ≡ 0 = div-eq_of_lt (omega (arith, small, one)) in
    rw (eq-eqb (n / b) 0 low) (omega arith)
length-digits_onto (suc k) b upper n (suc m) rest positive small =
    ⊎_elim (λ (none : n / b ≡ 0). rw (eq-eqb (n / b) 0 none) (omega arith))
    (λ (more : n / b ≡ 0 → ⊥).
    let power = pow-succ' b (suc m) in
    let product : b ^ suc m * b ≡ b * b ^ suc m = omega arith in
    let quotient = (div-lt_iff_lt-mul {k = b} {x = n} {y = b ^ suc m} positive).1 (omega (arith, small, power, product)) in
    let after = length-digits_onto k b upper (n / b) m (digit_glyph upper (n % b) ∷ rest) positive quotient in
    rw (ne_eqb (n / b) 0 more) (omega (arith, after)))
    (cases_eq (n / b) 0)

hex_length : (n : ℕ) → n < 65536 → length (digits 16 false n) ≤ 4
unfolding digits
hex_length n small = length-digits_onto 64 16 false n 3 [] (omega arith) small

part_is : (family : Family) (n : ℕ) → n < base family → IsPart family (part_text family n) n
part_is Ipv4 n small = (small, refl)
part_is Ipv6 n small =
    let numeral = digits_is_IsNumeral 16 false (omega arith) (omega arith) n (omega arith) in
    (numeral.0, hex_length n small, numeral.1)

base_positive : (family : Family) → 0 < base family
base_positive Ipv4 = omega arith
base_positive Ipv6 = omega arith

parts_are : (family : Family) (k n : ℕ) → AllZip (IsPart family) (map (part_text family) (base_digits (base family) k n)) (base_digits (base family) k n)
parts_are family zero n = tt
parts_are family (suc k) n =
    let positive = base_positive family in
    (part_is family (n / base family ^ k % base family) (omega arith), parts_are family k n)

written_whole : (family : Family) (text parts : List ℕ) → AreParts family text parts → WritesParts family text parts
written_whole Ipv4 text parts h = h
written_whole Ipv6 text parts h = inl h

pub address_text-is : (family : Family) (address : ℕ) → address < 2 ^ width family → IsAddress family (address_text family address) address
address_text-is family address small =
    let power = whole_power family in
    record {
      parts = base_digits (base family) (places family) address;
      written = written_whole family (address_text family address) (base_digits (base family) (places family) address) (record {
        words = map (part_text family) (base_digits (base family) (places family) address);
        each = parts_are family (places family) address;
        joined = refl;
      });
      all = length-base_digits (base family) (places family) address;
      value = sym (number-base_digits (base family) (places family) address (base_positive family) ∙ mod-eq_of_lt (omega (arith, small, power)));
    }

net_form : (family : Family) (net : Net) → IsNet (width family) net.address net.length → width family < 1000 → IsPrefixForm (net_text family net) family net.address net.length
net_form family net h small =
    let within = h.within in
    record {
      front = address_text family net.address;
      is_address = address_text-is family net.address h.below;
      three_digits = omega arith;
      text_is = refl;
    }

pub prefix_text-is : (p : Prefix) → IsPrefix p → IsPrefixText (prefix_text p) p
prefix_text-is (V4 net) h = (net_form Ipv4 net h (omega arith), h)
prefix_text-is (V6 net) h = (net_form Ipv6 net h (omega arith), h)

pub reads_back : PrefixesReadBack
reads_back p h = prefix_of-only (prefix_text p) p (prefix_text-is p h)

-- the text in one row, as a format writes it
pub dotted : (n bits : ℕ) → decimal (n / 16777216 % 256) ++ (46 ∷ (decimal (n / 65536 % 256) ++ (46 ∷ (decimal (n / 256 % 256) ++ (46 ∷ (decimal (n % 256) ++ (47 ∷ decimal bits))))))) ≡ net_text Ipv4 (record { address = n; length = bits })
dotted n bits =
    let last : n / 1 % 256 ≡ n % 256 = omega arith in
    simp (append_assoc, last)

abbrev pub hex : ℕ → List ℕ
hex n = digits 16 false n

pub colons : (n bits : ℕ) → hex (n / 65536 ^ 7 % 65536) ++ (58 ∷ (hex (n / 65536 ^ 6 % 65536) ++ (58 ∷ (hex (n / 65536 ^ 5 % 65536) ++ (58 ∷ (hex (n / 65536 ^ 4 % 65536) ++ (58 ∷ (hex (n / 65536 ^ 3 % 65536) ++ (58 ∷ (hex (n / 65536 ^ 2 % 65536) ++ (58 ∷ (hex (n / 65536 ^ 1 % 65536) ++ (58 ∷ (hex (n / 65536 ^ 0 % 65536) ++ (47 ∷ decimal bits))))))))))))))) ≡ net_text Ipv6 (record { address = n; length = bits })
colons n bits = simp append_assoc
