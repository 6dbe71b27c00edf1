-- How each family writes an address: IPv4 as four octets in decimal, parted by dots, IPv6 as eight
-- groups of 16 bits in hexadecimal, parted by colons (RFC 4291, section 2.2).
use Rattle.std.specs.Prelude.{ℕ}
use Rattle.flow_prefix.specs.declared.family.Family.{Family}
use Rattle.flow_prefix.specs.declared.family.Family.TheVariants.{Ipv4, Ipv6}

-- the bits of an address
abbrev pub width : Family → ℕ
width Ipv4 = 32
width Ipv6 = 128

-- the parts of an address
abbrev pub places : Family → ℕ
places Ipv4 = 4
places Ipv6 = 8

-- one above the greatest part
abbrev pub base : Family → ℕ
base Ipv4 = 256
base Ipv6 = 65536

-- what stands between two parts: a dot, a colon
abbrev pub separator : Family → ℕ
separator Ipv4 = 46
separator Ipv6 = 58
