-- The registered elements of the profile (IANA's registry of information elements; their types: RFC 7012, section 3.1).
use Rattle.std.specs.Prelude.{ℕ, List, [], ◌∷◌, Option, Some, None, ◌==◌, codes}
use Rattle.std.specs.List.{find}
use Rattle.ipfix_element.specs.declared.kind.Kind.{Kind}
use Rattle.ipfix_element.specs.declared.kind.Kind.TheVariants.{U8, U16, U32, U64, Ipv4, Ipv6, Mac, Seconds, Millis, Text, Octets}

-- a line of the registry
pub record Registered : Type 0 where
  pub number : ℕ
  pub kind : Kind
  pub name : List ℕ

abbrev pub line : ℕ → Kind → List ℕ → Registered
line number kind name = record { number = number; kind = kind; name = name }

unfoldable pub registry : List Registered
registry =
    line 1 U64 (codes "octetDeltaCount")
    ∷ line 2 U64 (codes "packetDeltaCount")
    ∷ line 3 U64 (codes "deltaFlowCount")
    ∷ line 4 U8 (codes "protocolIdentifier")
    ∷ line 5 U8 (codes "ipClassOfService")
    ∷ line 6 U16 (codes "tcpControlBits")
    ∷ line 7 U16 (codes "sourceTransportPort")
    ∷ line 8 Ipv4 (codes "sourceIPv4Address")
    ∷ line 9 U8 (codes "sourceIPv4PrefixLength")
    ∷ line 10 U32 (codes "ingressInterface")
    ∷ line 11 U16 (codes "destinationTransportPort")
    ∷ line 12 Ipv4 (codes "destinationIPv4Address")
    ∷ line 13 U8 (codes "destinationIPv4PrefixLength")
    ∷ line 14 U32 (codes "egressInterface")
    ∷ line 15 Ipv4 (codes "ipNextHopIPv4Address")
    ∷ line 16 U32 (codes "bgpSourceAsNumber")
    ∷ line 17 U32 (codes "bgpDestinationAsNumber")
    ∷ line 27 Ipv6 (codes "sourceIPv6Address")
    ∷ line 28 Ipv6 (codes "destinationIPv6Address")
    ∷ line 56 Mac (codes "sourceMacAddress")
    ∷ line 58 U16 (codes "vlanId")
    ∷ line 60 U8 (codes "ipVersion")
    ∷ line 61 U8 (codes "flowDirection")
    ∷ line 80 Mac (codes "destinationMacAddress")
    ∷ line 82 Text (codes "interfaceName")
    ∷ line 85 U64 (codes "octetTotalCount")
    ∷ line 86 U64 (codes "packetTotalCount")
    ∷ line 136 U8 (codes "flowEndReason")
    ∷ line 148 U64 (codes "flowId")
    ∷ line 149 U32 (codes "observationDomainId")
    ∷ line 150 Seconds (codes "flowStartSeconds")
    ∷ line 151 Seconds (codes "flowEndSeconds")
    ∷ line 152 Millis (codes "flowStartMilliseconds")
    ∷ line 153 Millis (codes "flowEndMilliseconds")
    ∷ line 210 Octets (codes "paddingOctets")
    ∷ []

-- the line of a number
abbrev pub line_of : ℕ → Option Registered
line_of number = find (λ line. line.number == number) registry

-- the line of an element: an enterprise's has none, also where its number has
abbrev pub line_for : Option ℕ → ℕ → Option Registered
line_for None number = line_of number
line_for (Some pen) number = None
