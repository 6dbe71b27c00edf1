-- A name is text.
use Rattle.std.proofs.Common.{◌≡◌, ℕ, zero, suc, ◌<◌, ◌&&◌, leb, true, [], ◌∷◌, length, get_or, arith, Bool, List}
use Rattle.std.specs.List.{list_all}
use Rattle.std.specs.Char.{is_ascii_lowercase}
use Rattle.std.specs.Str.{IsUtf8, IsAscii}
use Rattle.std.proofs.lemmas.Str.{IsUtf8-from_ascii}
use Rattle.std.proofs.lemmas.Bool.{and_parts}
use Rattle.std.proofs.lemmas.Bool.Decides.{nat_tests}
use Rattle.policy_text.specs.Words.{Word}
use Rattle.policy_text.specs.Naming.{is_name, is_name_octet}

-- octets that pass a test of ASCII ones are ASCII
pub ascii_by : (test : ℕ → Bool) → ((c : ℕ) → test c ≡ true → c < 128) → (octets : List ℕ) → list_all test octets ≡ true → IsAscii octets
ascii_by test low [] h i = omega arith
ascii_by test low (c ∷ cs) h zero = low c (and_parts (test c) (list_all test cs) h).0
ascii_by test low (c ∷ cs) h (suc i) = ascii_by test low cs (and_parts (test c) (list_all test cs) h).1 i

octet_ascii : (c : ℕ) → is_name_octet c ≡ true → c < 128
octet_ascii c h = grind (arith, nat_tests)

-- a name's octets, and its length
pub record NameParts (word : Word) : Type 0 where
  pub first : is_ascii_lowercase (get_or word 0 0) ≡ true
  pub octets : list_all is_name_octet word ≡ true

pub name_parts : (word : Word) → is_name word ≡ true → NameParts word
unfolding is_name
name_parts word h =
    let front = and_parts (is_ascii_lowercase (get_or word 0 0) && list_all is_name_octet word) (leb (length word) 32) h in
    let both = and_parts (is_ascii_lowercase (get_or word 0 0)) (list_all is_name_octet word) front.0 in
    record { first = both.0; octets = both.1 }

pub is_name-text : (word : Word) → is_name word ≡ true → IsUtf8 word
is_name-text word h = IsUtf8-from_ascii word (ascii_by is_name_octet octet_ascii word (name_parts word h).octets)
