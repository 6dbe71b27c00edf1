-- A stream that is read piece by piece, and where it stops.
use Rattle.std.proofs.Common.{◌≡◌, inl, inr, ℕ, suc, ◌+◌, ◌*◌, ◌≤◌, Bool, false, List, [], ◌∷◌, ◌++◌, length, Option, Some, None, refl, sym, ap, ◌∙◌, subst, append-nil, append_assoc, arith, length-append}
use Rattle.std.proofs.Math.Nat.{mul-suc}
use Rattle.std.specs.Io.KnownBytes.{Consumes}
use Rattle.std.proofs.KnownBytes.{Consumes-trans, Consumes-nil}
use Rattle.ipfix_message.specs.declared.fault.Fault.{Fault as DecodeError}
use Rattle.ipfix_message.specs.declared.fault.Fault.TheVariants as frame
use Rattle.ipfix_message.specs.Framing.{IsFramed}
use Rattle.ipfix_reader.specs.declared.fault.FramingFault.TheVariants as framing
use Rattle.ipfix_reader.specs.declared.fault.Fault.{Fault as IntakeFault}
use Rattle.ipfix_reader.specs.declared.fault.Fault.TheVariants as intake
use Rattle.ipfix_message.specs.FramerState.{nothing_fed}
use Rattle.ipfix_reader.specs.Intake.{IntakeState, Yields, Ends, StopsIntake, StreamHasFault, reader_after as intake_reader}
use Rattle.shared_mediator.specs.Locked.{Exporting}
use Rattle.mediator_connections.specs.declared.fault.Fault.{Fault}
use Rattle.mediator_connections.specs.declared.fault.Fault.TheVariants.{Read, Write, Framing, Turns, TooWide, TooManyCounts, Mediator}
use Rattle.mediator_connections.specs.Faults.{out_of_memory, intake_refusal, fails_reader}
use Rattle.ipfix_reader.specs.Intake.{AreRead}
use Rattle.mediator_connections.specs.Serving.{IsRefusalOf, Offers, OffersWhole, OffersBefore, RefusesOne, Serves, StopsAt, StopsServing, RefusesAmong, Reaches}
use Rattle.mediator_connections.proofs.Offering.{offers_none, offers_then, receipts_count}

nothing_framed : IsFramed [] [] None []
nothing_framed = record {
  tail = [];
  joined = refl;
  each = λ i e lt. absurd (omega arith);
  ends = (refl, record { version = λ le. absurd (omega arith); least = λ le. absurd (omega arith); short = λ le. absurd (omega arith) });
}

emptied : (w : DecodeError) (octets : List ℕ) (messages : List (List ℕ)) (pending : List ℕ) → IsFramed octets messages (Some w) pending → IsFramed octets messages (Some w) []
emptied w octets messages pending framed = subst (IsFramed octets messages (Some w)) framed.ends.0 framed

-- a call that read nothing leaves all as it was
same_read : (given mid left : Option (List ℕ)) (octets : List ℕ) → Consumes given mid octets → Consumes mid left [] → Consumes given left octets
same_read given mid left octets taken none = subst (Consumes given left) (append-nil octets) (Consumes-trans given mid left octets [] taken none)

-- one read less
a_read : (most left turns : ℕ) → left + 1 ≡ turns → most * turns ≡ most * left + most
a_read most left turns is =
    let one : turns ≡ suc left = omega (arith, is) in
    ap (λ n. most * n) one ∙ mul-suc most left

-- ---- on the way

pub reading_starts : (most turns : ℕ) (i : IntakeState) (given : Option (List ℕ)) (d : Exporting) → i.framing ≡ nothing_fed → i.turns ≡ turns → i.most ≤ most → Reaches most turns i given given d d
reading_starts most turns i given d framing is widest = record {
  octets = [];
  messages = [];
  taken = Consumes-nil given;
  all = record { framed = subst (λ x. IsFramed [] [] x.fault x.pending) (sym framing) nothing_framed; offers = offers_none d };
  many = omega (arith, is);
  widest = widest;
  few = omega (arith, ap (λ n. most * n) is);
}

-- a piece was read, and the messages that it made whole were offered
pub reads_on : (most turns : ℕ) (i k : IntakeState) (given mid left : Option (List ℕ)) (old d e : Exporting) (out : List (List ℕ)) → Reaches most turns i given mid old d → Yields i mid left out k → Offers d e out → Reaches most turns k given left old e
reads_on most turns i k given mid left old d e out so takes offers = record {
  octets = so.octets ++ takes.piece;
  messages = so.messages ++ out;
  taken = Consumes-trans given mid left so.octets takes.piece so.taken takes.is_piece.read;
  all = record { framed = takes.goes_on.after so.octets so.messages so.all.framed; offers = offers_then old d e so.messages out so.all.offers offers };
  many = omega (arith, so.many, takes.is_piece.some, takes.turn.0, length-append so.octets takes.piece);
  widest = omega (arith, takes.turn.1, so.widest);
  few = omega (arith, so.few, so.widest, takes.is_piece.few, a_read most k.turns i.turns takes.turn.0, length-append so.octets takes.piece);
}

-- ---- where it ends

pub reading_ends : (most turns offered : ℕ) (i k : IntakeState) (given mid left : Option (List ℕ)) (old d : Exporting) → Reaches most turns i given mid old d → Ends i mid left k → length d.kept ≡ length old.kept + offered → Serves most turns offered given left old d
reading_ends most turns offered i k given mid left old d so ends many = record {
  octets = so.octets;
  messages = so.messages;
  taken = same_read given mid left so.octets so.taken ends.read;
  end = ends.end;
  turns_made = omega (arith, so.few, a_read most k.turns i.turns ends.turn.0);
  all = record { framed = subst (λ x. IsFramed so.octets so.messages x.fault x.pending) ends.whole so.all.framed; offers = so.all.offers };
  counted = omega (arith, many, receipts_count old d so.messages so.all.offers);
}

-- ---- where it stops

-- no memory was there before the first read
pub begins_not : (most turns : ℕ) (given : Option (List ℕ)) (d : Exporting) → StopsServing out_of_memory most turns given given d d
begins_not most turns given d = record {
  octets = [];
  taken = Consumes-nil given;
  stops = (
    inr (record {
      memory = refl;
      fed = [];
      piece = [];
      parts = refl;
      few = omega arith;
      pending = [];
      whole = record { messages = []; all = record { framed = nothing_framed; offers = offers_none d } };
    }),
    omega arith,
  );
}

-- one of the messages is refused
refuses_one : (e : Fault) (most turns : ℕ) (i k : IntakeState) (given mid left : Option (List ℕ)) (old d new : Exporting) (out : List (List ℕ)) → (so : Reaches most turns i given mid old d) → (takes : Yields i mid left out k) → RefusesAmong e d new out
    → RefusesOne (so.octets ++ takes.piece) old new
refuses_one e most turns i k given mid left old d new out so takes stop = record {
  before = so.messages ++ stop.before;
  message = stop.message;
  later = stop.later;
  faulty = k.framing.fault;
  pending = k.framing.pending;
  framed = subst (λ ms. IsFramed (so.octets ++ takes.piece) ms k.framing.fault k.framing.pending) (ap (λ t. so.messages ++ t) stop.parts ∙ sym (append_assoc so.messages stop.before (stop.message ∷ stop.later)))
      (takes.goes_on.after so.octets so.messages so.all.framed);
  offers = offers_then old d new so.messages stop.before so.all.offers stop.offers;
}

stops_there : (e : Fault) (most turns : ℕ) (octets : List ℕ) (left : Option (List ℕ)) (old new : Exporting) → (one : RefusesOne octets old new) → IsRefusalOf e one.message → AreRead most turns octets → StopsAt e most turns octets left old new
stops_there (Mediator why) most turns octets left old new one is few = (inl (one, is), few)
stops_there TooWide most turns octets left old new one is few = ((one, is), few)
stops_there TooManyCounts most turns octets left old new one is few = ((one, is), few)
stops_there Read most turns octets left old new one is few = absurd is
stops_there (Write sent) most turns octets left old new one is few = absurd is
stops_there (Framing why) most turns octets left old new one is few = absurd is
stops_there Turns most turns octets left old new one is few = absurd is

pub message_stops : (e : Fault) (most turns : ℕ) (i k : IntakeState) (given mid left : Option (List ℕ)) (old d new : Exporting) (out : List (List ℕ)) → Reaches most turns i given mid old d → Yields i mid left out k → RefusesAmong e d new out
    → StopsServing e most turns given left old new
unfolding refuses_one
message_stops e most turns i k given mid left old d new out so takes stop = record {
  octets = so.octets ++ takes.piece;
  taken = Consumes-trans given mid left so.octets takes.piece so.taken takes.is_piece.read;
  stops = stops_there e most turns (so.octets ++ takes.piece) left old new (refuses_one e most turns i k given mid left old d new out so takes stop) stop.is
      (omega (arith, so.few, so.widest, takes.is_piece.few, a_read most k.turns i.turns takes.turn.0, length-append so.octets takes.piece));
}

whole_after : (most turns : ℕ) (i : IntakeState) (given left : Option (List ℕ)) (old d : Exporting) → (so : Reaches most turns i given left old d) → i.framing.fault ≡ None → OffersWhole so.octets i.framing.pending old d
whole_after most turns i given left old d so sound = record {
  messages = so.messages;
  all = record { framed = subst (λ x. IsFramed so.octets so.messages x i.framing.pending) sound so.all.framed; offers = so.all.offers };
}

-- the octets of a stream with a fault
record FaultIn (w : DecodeError) (most turns : ℕ) (given left : Option (List ℕ)) (old d : Exporting) : Type 0 where
  pub octets : List ℕ
  pub taken : Consumes given left octets
  pub before : OffersBefore w octets old d
  pub few : AreRead most turns octets

faulty : (w : DecodeError) (most turns : ℕ) (i k : IntakeState) (given mid left : Option (List ℕ)) (old d : Exporting) → Reaches most turns i given mid old d → StreamHasFault w i mid left k → FaultIn w most turns given left old d
faulty w most turns i k given mid left old d so (inl was) = record {
  octets = so.octets;
  taken = same_read given mid left so.octets so.taken was.1.read;
  before = record {
    messages = so.messages;
    all = record { framed = emptied w so.octets so.messages i.framing.pending (subst (λ x. IsFramed so.octets so.messages x i.framing.pending) was.0 so.all.framed); offers = so.all.offers };
  };
  few = omega (arith, so.few);
}
faulty w most turns i k given mid left old d so (inr now) = record {
  octets = so.octets ++ now.piece;
  taken = Consumes-trans given mid left so.octets now.piece so.taken now.is_piece.read;
  before = record {
    messages = so.messages ++ [];
    all = record {
      framed = emptied w (so.octets ++ now.piece) (so.messages ++ []) k.framing.pending (subst (λ x. IsFramed (so.octets ++ now.piece) (so.messages ++ []) x k.framing.pending) now.fault_is (now.goes_on.after so.octets so.messages so.all.framed));
      offers = subst (Offers old d) (sym (append-nil so.messages)) so.all.offers;
    };
  };
  few = omega (arith, so.few, so.widest, now.is_piece.few, a_read most k.turns i.turns now.turn.0, length-append so.octets now.piece);
}

-- the intake hands out nothing more
pub intake_stops : (w : IntakeFault) (most turns : ℕ) (i k : IntakeState) (given mid left : Option (List ℕ)) (old d : Exporting) → Reaches most turns i given mid old d → StopsIntake w i mid left k → StopsServing (intake_refusal w) most turns given left old d
intake_stops intake.Read most turns i k given mid left old d so stops = record {
  octets = so.octets;
  taken = same_read given mid left so.octets so.taken stops.read;
  stops = ((i.framing.pending, whole_after most turns i given mid old d so stops.sound), omega (arith, so.few, a_read most k.turns i.turns stops.turn.0));
}
intake_stops (intake.Framing framing.BadVersion) most turns i k given mid left old d so stops =
    let f = faulty frame.BadVersion most turns i k given mid left old d so stops in
    record { octets = f.octets; taken = f.taken; stops = (f.before, f.few) }
intake_stops (intake.Framing framing.BadLength) most turns i k given mid left old d so stops =
    let f = faulty frame.BadLength most turns i k given mid left old d so stops in
    record { octets = f.octets; taken = f.taken; stops = (f.before, f.few) }
intake_stops (intake.Framing framing.CutOff) most turns i k given mid left old d so stops = record {
  octets = so.octets;
  taken = same_read given mid left so.octets so.taken stops.read;
  stops = ((i.framing.pending, whole_after most turns i given mid old d so stops.sound, stops.pending), omega (arith, so.few, a_read most k.turns i.turns stops.turn.0), stops.end);
}
intake_stops intake.Turns most turns i k given mid left old d so stops = record {
  octets = so.octets;
  taken = same_read given mid left so.octets so.taken stops.2.read;
  stops = ((i.framing.pending, whole_after most turns i given mid old d so stops.0), omega (arith, so.many, stops.1), omega (arith, so.few, stops.1));
}
intake_stops intake.OutOfMemory most turns i k given mid left old d so stops = record {
  octets = so.octets ++ stops.piece;
  taken = Consumes-trans given mid left so.octets stops.piece so.taken stops.is_piece.read;
  stops = (
    inr (record {
      memory = refl;
      fed = so.octets;
      piece = stops.piece;
      parts = refl;
      few = omega (arith, so.widest, stops.is_piece.few);
      pending = i.framing.pending;
      whole = whole_after most turns i given mid old d so stops.sound;
    }),
    omega (arith, so.few, so.widest, stops.is_piece.few, a_read most k.turns i.turns stops.turn.0, length-append so.octets stops.piece),
  );
}

-- only a failed read leaves a failed reader
pub intake_reads : (w : IntakeFault) (e : Fault) (failed : Bool) → e ≡ intake_refusal w → failed ≡ intake_reader w false → failed ≡ fails_reader e
intake_reads intake.Read e failed is fails = rw is fails
intake_reads (intake.Framing why) e failed is fails = rw is fails
intake_reads intake.Turns e failed is fails = rw is fails
intake_reads intake.OutOfMemory e failed is fails = rw is fails

pub refusal_reads : (e : Fault) (message : List ℕ) (failed : Bool) → IsRefusalOf e message → failed ≡ false → failed ≡ fails_reader e
refusal_reads (Mediator why) message failed is sound = sound
refusal_reads TooWide message failed is sound = sound
refusal_reads TooManyCounts message failed is sound = sound
refusal_reads Read message failed is sound = absurd is
refusal_reads (Write sent) message failed is sound = absurd is
refusal_reads (Framing why) message failed is sound = absurd is
refusal_reads Turns message failed is sound = absurd is

pub mediator_reads : (e : Fault) (old new : Exporting) (out : List (List ℕ)) (failed : Bool) → RefusesAmong e old new out → failed ≡ false → failed ≡ fails_reader e
mediator_reads e old new out failed stop sound = refusal_reads e stop.message failed stop.is sound
