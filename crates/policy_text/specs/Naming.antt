-- Names of subscribers and aggregates: this project's own rule.
use Rattle.std.specs.Prelude.{ℕ, Bool, length, nat_le, ◌==◌, ◌&&◌, ◌||◌, slice_index}
use Rattle.std.specs.List.{list_all}
use Rattle.std.specs.Char.{is_ascii_lowercase, is_ascii_digit}
use Rattle.policy_text.specs.Words.{Word}

-- `a` to `z`, `0` to `9`, `-` and `_`
abbrev pub is_name_octet : ℕ → Bool
is_name_octet c = is_ascii_lowercase c || is_ascii_digit c || c == 45 || c == 95

-- 1 to 32 of these, the first a letter
unfoldable pub is_name : Word → Bool
is_name word = is_ascii_lowercase (slice_index word 0) && list_all is_name_octet word && nat_le (length word) 32
