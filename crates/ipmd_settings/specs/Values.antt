-- What stands at a key of a table.
use Rattle.std.specs.Prelude.{ℕ, ℤ, pos, negsuc, nat_le, Bool, false, ◌&&◌, List, [], ◌∷◌, map, Option, Some, None, Result, if◌then◌else◌, option_and_then, option_map}
use Rattle.std.specs.List.Sorted.{IsStrictlySortedBy}
use Rattle.std.specs.Cmp.Lexicographic.{slice_cmp}
use Rattle.std.specs.Ordering.{nat_cmp}
use Rattle.toml.specs.Data.{Data, Members, no_members, member, as_bool, as_str, as_integer, as_table, get_member}
use Rattle.sequences.specs.Options.{◌>>=◌}
use Rattle.ipmd_settings.specs.declared.key.Key.{Key}
use Rattle.ipmd_settings.specs.declared.key.Key.TheVariants as key
use Rattle.ipmd_settings.specs.declared.fault.Fault.{Fault}
use Rattle.ipmd_settings.specs.Asked.{Pair}
use Rattle.ipmd_settings.specs.Names.{key_name}
use Rattle.ipmd_settings.specs.Results.{value_at_key}

-- the text at a key
abbrev pub text_in : Key → Members → Option (List ℕ)
text_in k table = option_and_then as_str (get_member (key_name k) table)

abbrev pub text_at : Key → Members → Result (List ℕ) Fault
text_at k table = value_at_key k (text_in k table)

-- what is read of the value at a key, or this where the key is absent
abbrev pub read_or : {A : Type 0} → A → (Data → Option A) → Option Data → Option A
read_or absent read None = Some absent
read_or absent read (Some value) = read value

-- the text at a key, or none where the key is absent
abbrev pub text_or_none_in : Key → Members → Option (Option (List ℕ))
text_or_none_in k table = read_or None (λ value. option_map Some (as_str value)) (get_member (key_name k) table)

abbrev pub text_or_none : Key → Members → Result (Option (List ℕ)) Fault
text_or_none k table = value_at_key k (text_or_none_in k table)

-- a number where it is from least to most
abbrev pub within : ℕ → ℕ → ℤ → Option ℕ
within least most (pos n) = if nat_le least n && nat_le n most then Some n else None
within least most (negsuc n) = None

-- the number at a key, where it is from least to most
abbrev pub setting_number : Key → ℕ → ℕ → Members → Option ℕ
setting_number k least most table = option_and_then (within least most) (option_and_then as_integer (get_member (key_name k) table))

abbrev pub integer_at : Key → ℕ → ℕ → Members → Result ℕ Fault
integer_at k least most table = value_at_key k (setting_number k least most table)

-- the number at a key, where it is from least to most, or another where the key is absent
abbrev pub number_or_in : Key → ℕ → ℕ → ℕ → Members → Option ℕ
number_or_in k absent least most table = read_or absent (λ value. option_and_then (within least most) (as_integer value)) (get_member (key_name k) table)

abbrev pub number_or : Key → ℕ → ℕ → ℕ → Members → Result ℕ Fault
number_or k absent least most table = value_at_key k (number_or_in k absent least most table)

-- the number at a key, where it is from least to most, or none where the key is absent
abbrev pub number_or_none_in : Key → ℕ → ℕ → Members → Option (Option ℕ)
number_or_none_in k least most table = read_or None (λ value. option_map Some (option_and_then (within least most) (as_integer value))) (get_member (key_name k) table)

abbrev pub number_or_none : Key → ℕ → ℕ → Members → Result (Option ℕ) Fault
number_or_none k least most table = value_at_key k (number_or_none_in k least most table)

-- whether a key says yes; where it is absent it says no
abbrev pub flag_or_false_in : Key → Members → Option Bool
flag_or_false_in k table = read_or false as_bool (get_member (key_name k) table)

abbrev pub flag_or_false : Key → Members → Result Bool Fault
flag_or_false k table = value_at_key k (flag_or_false_in k table)

-- each key of a table is a subscriber, and its value the address, which is a text
abbrev pub collectors_of : Members → Option (List Pair)
collectors_of no_members = Some []
collectors_of (member name value others) = do
  address ← as_str value
  more ← collectors_of others
  Some ((name, address) ∷ more)

abbrev pub collectors_in : Key → Members → Option (List Pair)
collectors_in k table = option_and_then collectors_of (option_and_then as_table (get_member (key_name k) table))

abbrev pub collectors_at : Members → Result (List Pair) Fault
collectors_at table = value_at_key key.Deliver (collectors_in key.Deliver table)

-- the subscribers ascend by their octets, so that no two are one
abbrev pub AscendByOctets : List Pair → Type 0
AscendByOctets collectors = IsStrictlySortedBy (slice_cmp nat_cmp) (map (λ p. p.0) collectors)
