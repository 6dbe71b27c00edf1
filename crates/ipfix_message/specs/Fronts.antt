-- What stands at the front of a stream.
use Rattle.std.specs.Prelude.{◌≡◌, ℕ, ◌≤◌, List, length, take, drop, MatchOption}
use Rattle.std.specs.List.{concat, All}
use Rattle.ipfix_message.specs.declared.framer.scan.Front.{Front}
use Rattle.ipfix_message.specs.declared.framer.scan.Front.TheVariants.{Partial, Whole, Faulty}
use Rattle.ipfix_message.specs.declared.framer.scan.Extent.{Extent}
use Rattle.ipfix_message.specs.Framing.{IsWhole, IsPartial, IsFaulty}

-- less than a message, one of so many octets, or a fault
abbrev pub IsFront : List ℕ → Front → Type 0
IsFront octets Partial = IsPartial octets
IsFront octets (Whole n) = (n ≤ length octets) × IsWhole (take n octets)
IsFront octets (Faulty fault) = IsFaulty fault octets

-- octets that are whole messages, one directly after another
pub record AreMessages (octets : List ℕ) : Type 0 where
  pub messages : List (List ℕ)
  pub joined : octets ≡ concat messages
  pub each : All IsWhole messages

-- the first octets are whole messages, and what follows is less than one, or the fault
pub record IsExtent (octets : List ℕ) (e : Extent) : Type 0 where
  pub within : e.whole ≤ length octets
  pub messages : AreMessages (take e.whole octets)
  pub ends : MatchOption e.fault (IsPartial (drop e.whole octets)) (λ fault. IsFaulty fault (drop e.whole octets))

-- where the octets are whole messages, out are these messages
pub record AreCut (octets : List ℕ) (out : List (List ℕ)) : Type 0 where
  pub same : (messages : List (List ℕ)) → All IsWhole messages → octets ≡ concat messages → out ≡ messages
