-- How the words of a record are put together.
use Rattle.std.proofs.Common.{◌≡◌, ℕ, ◌+◌, ◌/◌, ◌%◌, ◌^◌, false, List, [], ◌∷◌, ◌++◌, refl, sym, ap, ◌∙◌, append_assoc, append-nil, map-id, arith}
use Rattle.std.specs.List.{flat_map, range_with_len}
use Rattle.std.proofs.lemmas.List.Concat.{flat_map-append}
use Rattle.std.proofs.lemmas.List.FromFn.{map-range_with_len_more}
use Rattle.std.specs.Fmt.{decimal, digits}
use Rattle.flow_prefix.specs.declared.family.Family.TheVariants.{Ipv4, Ipv6}
use Rattle.flow_prefix.specs.Printing.{address_text}

-- an address in one row, as a format writes it
pub dotted : (n : ℕ) → decimal (n / 16777216 % 256) ++ (46 ∷ (decimal (n / 65536 % 256) ++ (46 ∷ (decimal (n / 256 % 256) ++ (46 ∷ decimal (n % 256)))))) ≡ address_text Ipv4 n
dotted n =
    let last : n / 1 % 256 ≡ n % 256 = omega arith in
    simp (append_assoc, last)

abbrev pub hex : ℕ → List ℕ
hex n = digits 16 false n

pub colons : (n : ℕ) → hex (n / 65536 ^ 7 % 65536) ++ (58 ∷ (hex (n / 65536 ^ 6 % 65536) ++ (58 ∷ (hex (n / 65536 ^ 5 % 65536) ++ (58 ∷ (hex (n / 65536 ^ 4 % 65536) ++ (58 ∷ (hex (n / 65536 ^ 3 % 65536) ++ (58 ∷ (hex (n / 65536 ^ 2 % 65536) ++ (58 ∷ (hex (n / 65536 ^ 1 % 65536) ++ (58 ∷ hex (n / 65536 ^ 0 % 65536)))))))))))))) ≡ address_text Ipv6 n
colons n = refl

range_more : (n : ℕ) → range_with_len 0 (n + 1) ≡ range_with_len 0 n ++ n ∷ []
range_more n = sym (map-id (range_with_len 0 (n + 1))) ∙ map-range_with_len_more (λ (x : ℕ). x) 0 n n (omega arith) ∙ ap (λ (t : List ℕ). t ++ n ∷ []) (map-id (range_with_len 0 n))

-- one field more
pub fields_turn : (f : ℕ → List ℕ) (n : ℕ) (before word after : List ℕ) → before ≡ flat_map f (range_with_len 0 n) → word ≡ f n → after ≡ before ++ word → after ≡ flat_map f (range_with_len 0 (n + 1))
fields_turn f n before word after so is joined =
    joined ∙ ap (λ t. t ++ word) so ∙ ap (λ t. flat_map f (range_with_len 0 n) ++ t) (is ∙ sym (append-nil (f n)))
    ∙ sym (ap (flat_map f) (range_more n) ∙ flat_map-append f (range_with_len 0 n) (n ∷ []))
