-- Tests of texts and names.
use Rattle.std.proofs.Common.{◌≡◌, ℕ, ◌≤◌, ◌&&◌, ◌%◌, Bool, true, false, leb, List, length, refl, arith}
use Rattle.std.specs.Str.{IsUtf8, is_utf8}
use Rattle.std.specs.List.{list_all}
use Rattle.std.specs.Char.{is_ascii_lowercase}
use Rattle.std.specs.Prelude.{slice_index}
use Rattle.std.proofs.Math.Nat.{mod-eq_of_lt}
use Rattle.std.proofs.lemmas.Str.{IsUtf8-from_is_utf8, is_utf8-from_IsUtf8}
use Rattle.std.proofs.lemmas.Bool.{and_parts, leb-true}
use Rattle.policy_text.specs.Naming.{is_name, is_name_octet}
use Rattle.policy_text.proofs.NameLaws.{is_name-text}

-- a test that is true only where something holds is false where it doesn't
untrue : (b : Bool) → (b ≡ true → ⊥) → b ≡ false
untrue true no_way = absurd (no_way refl)
untrue false no_way = refl

pub is_text : (octets : List ℕ) → IsUtf8 octets → is_utf8 octets ≡ true
is_text octets is = is_utf8-from_IsUtf8 octets is

pub is_no_text : (octets : List ℕ) → (IsUtf8 octets → ⊥) → is_utf8 octets ≡ false
is_no_text octets other = untrue (is_utf8 octets) (λ is. other (IsUtf8-from_is_utf8 octets is))

-- what is no text is no name
pub is_no_name : (octets : List ℕ) → (IsUtf8 octets → ⊥) → is_name octets ≡ false
is_no_name octets other = untrue (is_name octets) (λ is. other (is_name-text octets is))

-- a name is short
pub name_short : (name : List ℕ) → is_name name ≡ true → length name ≤ 32
unfolding is_name
name_short name is =
    leb-true (length name) 32 (and_parts (is_ascii_lowercase (slice_index name 0) && list_all is_name_octet name) (leb (length name) 32) is).1

-- so its length is the octet that it has
pub name_octet : (name : List ℕ) → is_name name ≡ true → length name % 256 ≡ length name
name_octet name is = let short = name_short name is in mod-eq_of_lt (omega arith)
