-- Octets that are handed out one after another.
use Rattle.std.proofs.Common.{◌≡◌, ◌≢◌, inl, ℕ, ◌≤◌, List, [], ◌∷◌, ◌++◌, length, take, drop, Option, Some, refl, ap, subst, arith, length-append, length-drop}
use Rattle.std.specs.Prelude.{MatchOption}
use Rattle.std.specs.List.{AllByRecursion}
use Rattle.std.proofs.KnownBytes.{Consumes-trans, Consumes-nil}
use Rattle.std.proofs.lemmas.List.{length-take-le}
use Rattle.mediator_connections.specs.declared.fault.Fault.{Fault}
use Rattle.mediator_connections.specs.declared.fault.Fault.TheVariants.{Read, Framing, Turns, Mediator}
use Rattle.ipfix_reader.specs.declared.fault.FramingFault.TheVariants as framing
use Rattle.mediator_state.specs.declared.fault.Fault.TheVariants as fault
use Rattle.mediator_connections.specs.Faults.{out_of_memory}
use Rattle.mediator_connections.specs.CommandInput.{InputState, ahead, HandsOutOctets, EndsBehind, IsLine, IsInside, StopsReading, Fills}

-- ---- handed out

pub hands_out_none : (i : InputState) (given : Option (List ℕ)) → HandsOutOctets i given given [] i
hands_out_none i given = record { taken = Consumes-nil (ahead i given); reads = omega arith }

pub hands_out_then : (i k l : InputState) (given mid left : Option (List ℕ)) (front octets : List ℕ) → HandsOutOctets i given mid front k → HandsOutOctets k mid left octets l → HandsOutOctets i given left (front ++ octets) l
hands_out_then i k l given mid left front octets a b = record {
  taken = Consumes-trans (ahead i given) (ahead k mid) (ahead l left) front octets a.taken b.taken;
  reads = omega (arith, a.reads, b.reads, length-append front octets);
}

pub ends_then : (i k : InputState) (given mid left : Option (List ℕ)) (front octets : List ℕ) → HandsOutOctets i given mid front k → EndsBehind k mid left octets → EndsBehind i given left (front ++ octets)
ends_then i k given mid left front octets a b = record { taken = Consumes-trans (ahead i given) (ahead k mid) left front octets a.taken b.taken; end = b.end }

-- ---- a read

-- something is pending already
pub fills_same : (i : InputState) (given : Option (List ℕ)) (from to : ℕ) (piece : List ℕ) → i.pending ≡ drop from (take to piece) → from ≢ to → from ≤ to → to ≤ length piece → Fills i given given i
fills_same i given from to piece is other le room = record {
  same = Consumes-nil (ahead i given);
  reads = λ some. omega arith;
  end = λ none. absurd (omega (arith, other, le, ap length none, ap length is, length-drop from (take to piece), length-take-le to piece room));
}

-- the octet that was asked for
one_more : (found : Option ℕ) (octet : ℕ) (k l : InputState) (mid left : Option (List ℕ)) → found ≡ Some octet → MatchOption found (EndsBehind k mid left []) (λ o. HandsOutOctets k mid left (o ∷ []) l) → HandsOutOctets k mid left (octet ∷ []) l
one_more found octet k l mid left is so = subst (λ o. MatchOption o (EndsBehind k mid left []) (λ o. HandsOutOctets k mid left (o ∷ []) l)) is so

-- ---- where a line or a text ends

pub line_ends : (i k l : InputState) (given mid left : Option (List ℕ)) (line : List ℕ) (found : Option ℕ) (octet : ℕ) → found ≡ Some octet → octet ≡ 10 → AllByRecursion (λ c. c ≢ 10) line → HandsOutOctets i given mid line k
    → MatchOption found (EndsBehind k mid left []) (λ o. HandsOutOctets k mid left (o ∷ []) l) → (octets : List ℕ) × IsLine line octets × HandsOutOctets i given left octets l
line_ends i k l given mid left line found octet some is one so next = (
  line ++ 10 ∷ [],
  record { one = one; cut = inl refl },
  hands_out_then i k l given mid left line (10 ∷ []) so (subst (λ c. HandsOutOctets k mid left (c ∷ []) l) is (one_more found octet k l mid left some next)),
)

-- where it stops that stopped behind what was handed out
pub stops_then : (e : Fault) (i k l : InputState) (given mid left : Option (List ℕ)) (front octets : List ℕ) → HandsOutOctets i given mid front k → StopsReading e k mid left octets l → StopsReading e i given left (front ++ octets) l
stops_then Read i k l given mid left front octets so stops = Consumes-trans (ahead i given) (ahead k mid) (ahead l left) front octets so.taken stops
stops_then Turns i k l given mid left front octets so stops = (hands_out_then i k l given mid left front octets so stops.0, stops.1, stops.2)
stops_then (Framing framing.CutOff) i k l given mid left front octets so stops = ends_then i k given mid left front octets so stops
stops_then (Mediator fault.OutOfMemory) i k l given mid left front octets so stops = hands_out_then i k l given mid left front octets so stops
stops_then _ i k l given mid left front octets so stops = absurd stops

pub begun_then : (e : Fault) (front octets : List ℕ) → IsInside e octets → IsInside e (front ++ octets)
begun_then (Framing framing.CutOff) front octets begun = omega (arith, begun, length-append front octets)
begun_then _ front octets begun = tt

pub line_stops : (e w : Fault) (i k l : InputState) (given mid left : Option (List ℕ)) (line : List ℕ) → e ≡ w → HandsOutOctets i given mid line k → StopsReading w k mid left [] l × IsInside w []
    → (octets : List ℕ) × StopsReading e i given left octets l × IsInside e octets
line_stops e w i k l given mid left line is so stops = rw is (line ++ [], stops_then w i k l given mid left line [] so stops.0, begun_then w line [] stops.1)

-- no memory for an octet more
pub text_lost : (e : Fault) (i k l : InputState) (given mid left : Option (List ℕ)) (text : List ℕ) (found : Option ℕ) (octet : ℕ) → e ≡ out_of_memory → found ≡ Some octet → HandsOutOctets i given mid text k
    → MatchOption found (EndsBehind k mid left []) (λ o. HandsOutOctets k mid left (o ∷ []) l) → (octets : List ℕ) × StopsReading e i given left octets l
text_lost e i k l given mid left text found octet is some so next = rw is (text ++ octet ∷ [], hands_out_then i k l given mid left text (octet ∷ []) so (one_more found octet k l mid left some next))

pub line_lost : (e : Fault) (i k l : InputState) (given mid left : Option (List ℕ)) (line : List ℕ) (found : Option ℕ) (octet : ℕ) → e ≡ out_of_memory → found ≡ Some octet → HandsOutOctets i given mid line k
    → MatchOption found (EndsBehind k mid left []) (λ o. HandsOutOctets k mid left (o ∷ []) l) → (octets : List ℕ) × StopsReading e i given left octets l × IsInside e octets
line_lost e i k l given mid left line found octet is some so next = rw is (line ++ octet ∷ [], hands_out_then i k l given mid left line (octet ∷ []) so (one_more found octet k l mid left some next), tt)
