-- A text cut at an ASCII character is cut at its octet.
use Rattle.std.proofs.Common.{◌≡◌, ℕ, ◌<◌, List, length, Option, Some, None, refl, arith, eqb}
use Rattle.std.specs.Option.{MatchOption, option_map}
use Rattle.std.specs.List.{position_or_len, before_first, after_first}
use Rattle.std.specs.Borrow.{Bor}
use Rattle.std.proofs.lemmas.Bool.{lt-ltb, le-ltb}
use Rattle.flow_prefix.specs.Reading.{cut_at}

pub cut_by_octets : (c : ℕ) (s : List ℕ) (r : Option (Bor (List ℕ) × Bor (List ℕ)))
    → MatchOption r (position_or_len (λ b. eqb b c) s ≡ length s)
    (λ x. (x.0.now ≡ before_first (λ b. eqb b c) s) × (x.1.now ≡ after_first (λ b. eqb b c) s) × (position_or_len (λ b. eqb b c) s < length s))
    → option_map (λ sides. (sides.0.now, sides.1.now)) r ≡ cut_at c s
unfolding cut_at
cut_by_octets c s None h = rw (le-ltb (position_or_len (λ b. eqb b c) s) (length s) (omega (arith, h))) refl
cut_by_octets c s (Some x) h = rw (h.0, h.1, lt-ltb (position_or_len (λ b. eqb b c) s) (length s) h.2) refl
