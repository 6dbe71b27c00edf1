-- A stream of messages, one directly after another, as TCP carries it (RFC 7011, sections 3.1 and 10.4). When a fault shows, and
-- that nothing is read behind it, is this project's own rule.
use Rattle.std.specs.Prelude.{◌≡◌, ◌≢◌, ℕ, ◌<◌, ◌≤◌, List, [], ◌++◌, length, Option, Some, None}
use Rattle.std.specs.List.{concat, All}
use Rattle.sequences.specs.Octets.{number_at}
use Rattle.ipfix_octets.specs.MessageFormat.{ipfix_version, header_octets}
use Rattle.ipfix_message.specs.declared.fault.Fault.{Fault}
use Rattle.ipfix_message.specs.declared.fault.Fault.TheVariants.{ShortHeader, BadVersion, BadLength, BadSetLength, TemplateOverrun, OutOfMemory}

-- the version that a header says: its first two octets (section 3.1)
abbrev pub version_of : List ℕ → ℕ
version_of octets = number_at 0 2 octets

-- the length of the whole message that a header says: its next two octets (section 3.1)
abbrev pub length_of : List ℕ → ℕ
length_of octets = number_at 2 2 octets

-- a whole message, no octet less or more: the version of IPFIX, at least a header, and the length that it says
pub record IsWhole (octets : List ℕ) : Type 0 where
  pub version : version_of octets ≡ ipfix_version
  pub least : header_octets ≤ length octets
  pub whole : length_of octets ≡ length octets

-- less than a whole message; what 4 octets of its header say is right
pub record IsPartial (octets : List ℕ) : Type 0 where
  pub version : 4 ≤ length octets → version_of octets ≡ ipfix_version
  pub least : 4 ≤ length octets → header_octets ≤ length_of octets
  pub short : 4 ≤ length octets → length octets < length_of octets

-- what stands where a message should is this fault, as 4 octets of its header show; the version is judged first
abbrev pub IsFaulty : Fault → List ℕ → Type 0
IsFaulty BadVersion octets = (4 ≤ length octets) × (version_of octets ≢ ipfix_version)
IsFaulty BadLength octets = (4 ≤ length octets) × (version_of octets ≡ ipfix_version) × (length_of octets < header_octets)
IsFaulty ShortHeader octets = ⊥
IsFaulty BadSetLength octets = ⊥
IsFaulty TemplateOverrun octets = ⊥
IsFaulty OutOfMemory octets = ⊥

-- the faults that a stream may have
abbrev pub EndsStream : Fault → Type 0
EndsStream BadVersion = Unit {0}
EndsStream BadLength = Unit {0}
EndsStream ShortHeader = ⊥
EndsStream BadSetLength = ⊥
EndsStream TemplateOverrun = ⊥
EndsStream OutOfMemory = ⊥

-- how a stream ends after its whole messages: with no fault, and octets that are pending; or with a fault, and none
abbrev pub EndsWith : Option Fault → List ℕ → List ℕ → Type 0
EndsWith None pending tail = (tail ≡ pending) × IsPartial tail
EndsWith (Some fault) pending tail = (pending ≡ []) × IsFaulty fault tail

-- the octets are these messages, and then this fault or these octets that are pending
pub record IsFramed (octets : List ℕ) (messages : List (List ℕ)) (fault : Option Fault) (pending : List ℕ) : Type 0 where
  pub tail : List ℕ
  pub joined : octets ≡ concat messages ++ tail
  pub each : All IsWhole messages
  pub ends : EndsWith fault pending tail

-- octets are framed in one way alone
abbrev pub IsFramedOnce : List ℕ → Type 0
IsFramedOnce octets =
    (messages others : List (List ℕ)) (fault other : Option Fault) (pending left : List ℕ) → IsFramed octets messages fault pending → IsFramed octets others other left → (messages ≡ others) × (fault ≡ other) × (pending ≡ left)
