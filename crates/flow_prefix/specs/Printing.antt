-- The one canonical text of a prefix, by this project's own rule: IPv4 in dotted decimal; IPv6 as eight groups in lower case,
-- without leading zeros and without `::`.
use Rattle.std.specs.Prelude.{ℕ, zero, suc, ◌/◌, ◌%◌, ◌^◌, List, [], ◌∷◌, ◌++◌, map, false}
use Rattle.std.specs.List.{join_with_byte}
use Rattle.std.specs.Fmt.{decimal, digits}
use Rattle.flow_prefix.specs.declared.family.Family.{Family}
use Rattle.flow_prefix.specs.declared.family.Family.TheVariants.{Ipv4, Ipv6}
use Rattle.flow_prefix.specs.declared.prefix.Prefix.{Prefix}
use Rattle.flow_prefix.specs.declared.prefix.Prefix.TheVariants.{V4, V6}
use Rattle.flow_prefix.specs.Family.{places, base, separator}
use Rattle.flow_prefix.specs.Net.{Net}

-- so many digits of a number in a base, the most significant first
abbrev pub base_digits : ℕ → ℕ → ℕ → List ℕ
base_digits b zero n = []
base_digits b (suc k) n = n / b ^ k % b ∷ base_digits b k n

-- a part of an address: IPv4 in decimal, IPv6 in hexadecimal of lower case
abbrev pub part_text : Family → ℕ → List ℕ
part_text Ipv4 n = decimal n
part_text Ipv6 n = digits 16 false n

abbrev pub address_text : Family → ℕ → List ℕ
address_text family address = join_with_byte (separator family) (map (part_text family) (base_digits (base family) (places family) address))

abbrev pub net_text : Family → Net → List ℕ
net_text family net = address_text family net.address ++ 47 ∷ decimal net.length

abbrev pub prefix_text : Prefix → List ℕ
prefix_text (V4 net) = net_text Ipv4 net
prefix_text (V6 net) = net_text Ipv6 net
