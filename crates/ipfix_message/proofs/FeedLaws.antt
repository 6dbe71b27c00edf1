-- Laws of a stream that comes in pieces.
use Rattle.std.proofs.Common.{◌≡◌, ℕ, ◌<◌, ◌≤◌, List, [], ◌∷◌, ◌++◌, length, Option, Some, Result, Ok, Err, refl, sym, ap, subst, ◌∙◌, inl, inr, append_assoc, append-nil, length-append, arith}
use Rattle.std.specs.List.{concat}
use Rattle.std.proofs.lemmas.List.Elements.{All-nil}
use Rattle.ipfix_message.specs.declared.fault.Fault.{Fault}
use Rattle.ipfix_message.specs.declared.fault.Fault.TheVariants.{ShortHeader, BadVersion, BadLength, BadSetLength, TemplateOverrun, OutOfMemory}
use Rattle.ipfix_message.specs.Framing.{IsWhole, IsFaulty, IsFramed}
use Rattle.ipfix_message.specs.FramerState.{FramerState, nothing_fed, HasFault}
use Rattle.ipfix_message.specs.Feeds.{Feed, Feeds, AreFed, octets_taken, stream_of, messages_in, messages_of, IsFramedByPieces, IsSameInAnyPieces}
use Rattle.ipfix_message.proofs.FramingLaws.{number_at-append, framed_once}
use Rattle.ipfix_message.proofs.FramerLaws.{all_framed}

at_least : (tail more : List ℕ) → 4 ≤ length tail → 4 ≤ length (tail ++ more)
at_least tail more four = omega (arith, length-append tail more)

-- what follows a fault changes nothing
faulty_more : (fault : Fault) (tail more : List ℕ) → IsFaulty fault tail → IsFaulty fault (tail ++ more)
faulty_more BadVersion tail more f =
    let four : 4 ≤ length tail = f.0 in
    (at_least tail more four, λ version. f.1 (sym (number_at-append 0 2 tail more (omega arith)) ∙ version))
faulty_more BadLength tail more f =
    let four : 4 ≤ length tail = f.0 in
    (at_least tail more four, number_at-append 0 2 tail more (omega arith) ∙ f.1, subst (λ (n : ℕ). n < 16) (sym (number_at-append 2 2 tail more (omega arith))) f.2)
faulty_more ShortHeader tail more f = f
faulty_more BadSetLength tail more f = f
faulty_more TemplateOverrun tail more f = f
faulty_more OutOfMemory tail more f = f

fault_more : (fed more pending : List ℕ) (messages : List (List ℕ)) (fault : Fault) → IsFramed fed messages (Some fault) pending → IsFramed (fed ++ more) messages (Some fault) pending
fault_more fed more pending messages fault framed = record {
  tail = framed.tail ++ more;
  joined = ap (λ (octets : List ℕ). octets ++ more) framed.joined ∙ append_assoc (concat messages) framed.tail more;
  each = framed.each;
  ends = (framed.ends.0, faulty_more fault framed.tail more framed.ends.1);
}

-- nothing more, and no message more
same_framed : (fed : List ℕ) (messages : List (List ℕ)) (old new : FramerState) → new ≡ old → IsFramed fed messages old.fault old.pending → IsFramed fed (messages ++ []) new.fault new.pending
same_framed fed messages old new same framed =
    subst (λ (list : List (List ℕ)). IsFramed fed list new.fault new.pending) (sym (append-nil messages))
    (subst (λ (s : FramerState). IsFramed fed messages s.fault s.pending) (sym same) framed)

has_fault : (fault : Fault) (fed piece : List ℕ) (messages : List (List ℕ)) (old new : FramerState) → IsFramed fed messages old.fault old.pending → HasFault fault old piece new → IsFramed (fed ++ piece) (messages ++ []) new.fault new.pending
has_fault fault fed piece messages old new framed h = elim h [
  | inl there ↦
      same_framed (fed ++ piece) messages old new there.1
      (subst (λ (w : Option Fault). IsFramed (fed ++ piece) messages w old.pending) (sym there.0) (fault_more fed piece old.pending messages fault (subst (λ (w : Option Fault). IsFramed fed messages w old.pending) there.0 framed)))
  | inr found ↦ found.2.after fed messages framed
]

-- one call, after whatever came before
fed_framed : (fed piece : List ℕ) (messages : List (List ℕ)) (answer : Result (List (List ℕ)) Fault) (old new : FramerState) → IsFramed fed messages old.fault old.pending → Feeds old (record { piece = piece; answer = answer }) new → IsFramed (fed ++ octets_taken answer piece) (messages ++ messages_in answer) new.fault new.pending
fed_framed fed piece messages (Ok out) old new framed h = h.ok.1.after fed messages framed
fed_framed fed piece messages (Err BadVersion) old new framed h = has_fault BadVersion fed piece messages old new framed h.err
fed_framed fed piece messages (Err BadLength) old new framed h = has_fault BadLength fed piece messages old new framed h.err
fed_framed fed piece messages (Err ShortHeader) old new framed h = absurd h.err
fed_framed fed piece messages (Err BadSetLength) old new framed h = absurd h.err
fed_framed fed piece messages (Err TemplateOverrun) old new framed h = absurd h.err
fed_framed fed piece messages (Err OutOfMemory) old new framed h =
    subst (λ (octets : List ℕ). IsFramed octets (messages ++ []) new.fault new.pending) (sym (append-nil fed)) (same_framed fed messages old new h.err.1 framed)

all_fed : (feeds : List Feed) (fed : List ℕ) (messages : List (List ℕ)) (old new : FramerState) → IsFramed fed messages old.fault old.pending → AreFed old feeds new → IsFramed (fed ++ stream_of feeds) (messages ++ messages_of feeds) new.fault new.pending
all_fed [] fed messages old new framed same =
    subst (λ (octets : List ℕ). IsFramed octets (messages ++ []) new.fault new.pending) (sym (append-nil fed)) (same_framed fed messages old new same framed)
all_fed (f ∷ feeds) fed messages old new framed h =
    let step = fed_framed fed f.piece messages f.answer old h.0 framed h.1 in
    let rest = all_fed feeds (fed ++ octets_taken f.answer f.piece) (messages ++ messages_in f.answer) h.0 new step h.2 in
    subst (λ (octets : List ℕ). IsFramed octets (messages ++ messages_of (f ∷ feeds)) new.fault new.pending) (append_assoc fed (octets_taken f.answer f.piece) (stream_of feeds))
    (subst (λ (list : List (List ℕ)). IsFramed ((fed ++ octets_taken f.answer f.piece) ++ stream_of feeds) list new.fault new.pending) (append_assoc messages (messages_in f.answer) (messages_of feeds)) rest)

-- whatever the pieces, the calls frame the stream
pub framed_by_pieces : IsFramedByPieces
framed_by_pieces feeds end h = all_fed feeds [] [] nothing_fed end (all_framed [] [] (All-nil IsWhole) refl) h

pub same_in_any_pieces : IsSameInAnyPieces
same_in_any_pieces feeds others end other h k same =
    framed_once (stream_of others) (messages_of feeds) (messages_of others) end.fault other.fault end.pending other.pending
    (subst (λ (octets : List ℕ). IsFramed octets (messages_of feeds) end.fault end.pending) same (framed_by_pieces feeds end h))
    (framed_by_pieces others other k)
