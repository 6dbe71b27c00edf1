-- The steps of a Framer, over plain lists.
use Rattle.std.proofs.Common.{◌≡◌, ℕ, ◌+◌, List, [], ◌∷◌, ◌++◌, take, drop, Option, Some, None, refl, sym, ap, subst, ◌∙◌, append_assoc, append-nil, arith, inr}
use Rattle.std.specs.List.{concat, All}
use Rattle.std.proofs.lemmas.List.{take-append-drop}
use Rattle.std.proofs.Math.Seq.{take-add}
use Rattle.std.proofs.lemmas.List.Elements.{All-append, All-nil, All-cons}
use Rattle.std.specs.Prelude.{MatchOption}
use Rattle.sequences.proofs.ListLaws.{concat_push}
use Rattle.ipfix_message.specs.declared.fault.Fault.{Fault}
use Rattle.ipfix_message.specs.declared.fault.Fault.TheVariants.{ShortHeader, BadVersion, BadLength, BadSetLength, TemplateOverrun, OutOfMemory}
use Rattle.ipfix_message.specs.declared.framer.scan.Front.{Front}
use Rattle.ipfix_message.specs.declared.framer.scan.Front.TheVariants.{Partial, Whole, Faulty}
use Rattle.ipfix_message.specs.declared.framer.scan.Extent.{Extent}
use Rattle.ipfix_message.specs.Framing.{IsWhole, IsPartial, IsFaulty, EndsWith, IsFramed}
use Rattle.ipfix_message.specs.Fronts.{IsFront, AreMessages, IsExtent, AreCut}
use Rattle.ipfix_message.specs.FramerState.{FramerState, Continues, FailsBy}
use Rattle.ipfix_message.proofs.FramingLaws.{framed_once, framed_on}

-- no octets are less than a message
partial_nothing : IsPartial []
partial_nothing = record { version = λ h. absurd (omega (arith, h)); least = λ h. absurd (omega (arith, h)); short = λ h. absurd (omega (arith, h)) }

-- octets that are whole messages, framed
pub all_framed : (octets : List ℕ) (messages : List (List ℕ)) → All IsWhole messages → octets ≡ concat messages → IsFramed octets messages None []
all_framed octets messages each e = record {
  tail = [];
  joined = e ∙ sym (append-nil (concat messages));
  each = each;
  ends = (refl, partial_nothing);
}

-- one message more
pub each_more : (messages : List (List ℕ)) (m : List ℕ) → All IsWhole messages → IsWhole m → All IsWhole (messages ++ m ∷ [])
each_more messages m each w = All-append IsWhole messages (m ∷ []) each (All-cons IsWhole m [] w (All-nil IsWhole))

-- the octets up to a whole message, and that message
pub AreMessages-more : (octets : List ℕ) (whole n : ℕ) → AreMessages (take whole octets) → IsWhole (take n (drop whole octets)) → AreMessages (take (whole + n) octets)
AreMessages-more octets whole n before w = record {
  messages = before.messages ++ take n (drop whole octets) ∷ [];
  joined =
      take-add whole n octets
      ∙ ap (λ (front : List ℕ). front ++ take n (drop whole octets)) before.joined
      ∙ sym (concat_push before.messages (take n (drop whole octets)));
  each = each_more before.messages (take n (drop whole octets)) before.each w;
}

-- the first octets of what is left become a message
pub joined_more : (octets left : List ℕ) (messages : List (List ℕ)) (n : ℕ) → octets ≡ concat messages ++ left → octets ≡ concat (messages ++ take n left ∷ []) ++ drop n left
joined_more octets left messages n e =
    e
    ∙ ap (λ (rest : List ℕ). concat messages ++ rest) (sym (take-append-drop n left))
    ∙ sym (append_assoc (concat messages) (take n left) (drop n left))
    ∙ ap (λ (front : List ℕ). front ++ drop n left) (sym (concat_push messages (take n left)))

-- what is cut off octets that are whole messages, until no message is at the front, are those messages
messages_all : (octets left : List ℕ) (found messages : List (List ℕ)) (f : Front) → octets ≡ concat found ++ left → All IsWhole found → IsFront left f → ((n : ℕ) → f ≡ Whole n → ⊥) → All IsWhole messages → octets ≡ concat messages → found ≡ messages
messages_all octets left found messages Partial e each front none others same =
    (framed_once octets found messages None None left [] (record { tail = left; joined = e; each = each; ends = (refl, front) }) (all_framed octets messages others same)).0
messages_all octets left found messages (Whole n) e each front none others same = absurd (none n refl)
messages_all octets left found messages (Faulty fault) e each front none others same =
    (framed_once octets found messages (Some fault) None [] [] (record { tail = left; joined = e; each = each; ends = (refl, front) }) (all_framed octets messages others same)).0

pub cut_all : (octets left : List ℕ) (found : List (List ℕ)) (f : Front) → octets ≡ concat found ++ left → All IsWhole found → IsFront left f → ((n : ℕ) → f ≡ Whole n → ⊥) → AreCut octets found
cut_all octets left found f e each front none = record { same = λ messages. messages_all octets left found messages f e each front none }

-- octets, framed by their extent
pub extent_framed : (octets left : List ℕ) (e : Extent) (out : List (List ℕ)) → IsExtent octets e → AreCut (take e.whole octets) out → EndsWith e.fault left (drop e.whole octets) → IsFramed octets out e.fault left
extent_framed octets left e out x are ends =
    let same : out ≡ x.messages.messages = are.same x.messages.messages x.messages.each x.messages.joined in
    record {
      tail = drop e.whole octets;
      joined =
          sym (take-append-drop e.whole octets)
          ∙ ap (λ (front : List ℕ). front ++ drop e.whole octets) (x.messages.joined ∙ ap concat (sym same));
      each = subst (All IsWhole) (sym same) x.messages.each;
      ends = ends;
    }

-- a framing of what was pending and the piece is what a call does
framing_continues : (old new : FramerState) (piece held : List ℕ) (out : List (List ℕ)) → old.fault ≡ None → held ≡ old.pending ++ piece → IsFramed held out new.fault new.pending → Continues old piece out new
framing_continues old new piece held out none e framed = record {
  after = λ fed messages before.
      framed_on fed piece old.pending new.pending messages out new.fault (subst (λ (fault : Option Fault). IsFramed fed messages fault old.pending) none before)
      (subst (λ (octets : List ℕ). IsFramed octets out new.fault new.pending) e framed);
}

-- a piece without a fault
pub goes_on : (old new : FramerState) (piece held : List ℕ) (e : Extent) (out : List (List ℕ)) → old.fault ≡ None → held ≡ old.pending ++ piece → IsExtent held e → AreCut (take e.whole held) out → e.fault ≡ None → new.fault ≡ None → new.pending ≡ drop e.whole held → Continues old piece out new
goes_on old new piece held e out none is x are clear after left =
    let partial : IsPartial (drop e.whole held) = subst (λ (fault : Option Fault). MatchOption fault (IsPartial (drop e.whole held)) (λ w. IsFaulty w (drop e.whole held))) clear x.ends in
    let ends : EndsWith e.fault new.pending (drop e.whole held) = subst (λ (fault : Option Fault). EndsWith fault new.pending (drop e.whole held)) (sym clear) (sym left, partial) in
    framing_continues old new piece held out none is
    (subst (λ (fault : Option Fault). IsFramed held out fault new.pending) (clear ∙ sym after) (extent_framed held new.pending e out x are ends))

-- a piece with a fault
pub stops : (old new : FramerState) (piece held : List ℕ) (e : Extent) (out : List (List ℕ)) (why : Fault) → old.fault ≡ None → held ≡ old.pending ++ piece → IsExtent held e → AreCut (take e.whole held) out → e.fault ≡ Some why → new.fault ≡ Some why → new.pending ≡ [] → Continues old piece out new
stops old new piece held e out why none is x are found after left =
    let faulty : IsFaulty why (drop e.whole held) = subst (λ (fault : Option Fault). MatchOption fault (IsPartial (drop e.whole held)) (λ w. IsFaulty w (drop e.whole held))) found x.ends in
    let ends : EndsWith e.fault new.pending (drop e.whole held) = subst (λ (fault : Option Fault). EndsWith fault new.pending (drop e.whole held)) (sym found) (left, faulty) in
    framing_continues old new piece held out none is
    (subst (λ (fault : Option Fault). IsFramed held out fault new.pending) (found ∙ sym after) (extent_framed held new.pending e out x are ends))

-- a piece with a fault before any message
fails_by : (old new : FramerState) (piece : List ℕ) (why : Fault) (tail : List ℕ) → IsFaulty why tail → old.fault ≡ None → new.fault ≡ Some why → Continues old piece [] new → FailsBy why old piece new
fails_by old new piece BadVersion tail faulty none after c = inr (none, after, c)
fails_by old new piece BadLength tail faulty none after c = inr (none, after, c)
fails_by old new piece ShortHeader tail faulty none after c = absurd faulty
fails_by old new piece BadSetLength tail faulty none after c = absurd faulty
fails_by old new piece TemplateOverrun tail faulty none after c = absurd faulty
fails_by old new piece OutOfMemory tail faulty none after c = absurd faulty

pub stops_at_once : (old new : FramerState) (piece held : List ℕ) (e : Extent) (out : List (List ℕ)) (why : Fault) → old.fault ≡ None → held ≡ old.pending ++ piece → IsExtent held e → AreCut (take e.whole held) out → e.fault ≡ Some why → new.fault ≡ Some why → new.pending ≡ [] → out ≡ [] → FailsBy why old piece new
stops_at_once old new piece held e out why none is x are found after left nothing =
    let faulty : IsFaulty why (drop e.whole held) = subst (λ (fault : Option Fault). MatchOption fault (IsPartial (drop e.whole held)) (λ w. IsFaulty w (drop e.whole held))) found x.ends in
    fails_by old new piece why (drop e.whole held) faulty none after
    (subst (λ (messages : List (List ℕ)). Continues old piece messages new) nothing (stops old new piece held e out why none is x are found after left))
