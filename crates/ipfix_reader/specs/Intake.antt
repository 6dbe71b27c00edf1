-- What an intake is seen as, and what a call does to it. That a stream is read in pieces, and by so many reads at most, is this
-- project's own rule; how its octets are cut into messages is the standard's (RFC 7011, sections 3.1 and 10.4).
use Rattle.std.specs.Prelude.{◌≡◌, ◌⊎◌, ℕ, ◌+◌, ◌*◌, ◌<◌, ◌≤◌, Bool, true, List, [], length, Option, Some, None}
use Rattle.std.specs.Io.KnownBytes.{Consumes, IsAtEnd}
use Rattle.ipfix_message.specs.declared.fault.Fault.{Fault as DecodeError}
use Rattle.ipfix_message.specs.declared.fault.Fault.TheVariants as frame
use Rattle.ipfix_message.specs.FramerState.{FramerState, nothing_fed, Continues}
use Rattle.ipfix_reader.specs.declared.fault.FramingFault.{FramingFault}
use Rattle.ipfix_reader.specs.declared.fault.FramingFault.TheVariants.{BadVersion, BadLength, CutOff}
use Rattle.ipfix_reader.specs.declared.fault.Fault.{Fault}
use Rattle.ipfix_reader.specs.declared.fault.Fault.TheVariants.{Read, Framing, Turns, OutOfMemory}

-- how the octets that were read are framed so far, the most octets of one read, and how many reads are left
pub record IntakeState : Type 0 where
  pub framing : FramerState
  pub most : ℕ
  pub turns : ℕ

-- before the first read
abbrev pub nothing_read : ℕ → ℕ → IntakeState
nothing_read most turns = record { framing = nothing_fed; most = most; turns = turns }

-- octets that one read gave, at least one and at most that many
pub record IsPiece (most : ℕ) (given left : Option (List ℕ)) (piece : List ℕ) : Type 0 where
  pub read : Consumes given left piece
  pub some : 0 < length piece
  pub few : length piece ≤ most

-- this many reads, each of at most that many octets, may have given these octets
abbrev pub AreRead : ℕ → ℕ → List ℕ → Type 0
AreRead most reads octets = length octets ≤ most * reads

-- this many reads, of which one gave none, may have given these octets
abbrev pub AreReadBut : ℕ → ℕ → List ℕ → Type 0
AreReadBut most reads octets = length octets + most ≤ most * reads

-- a read more was made, and the most octets of one stay
abbrev pub UsesTurn : IntakeState → IntakeState → Type 0
UsesTurn old new = (new.turns + 1 ≡ old.turns) × (new.most ≡ old.most)

-- a piece was read, and with it the stream goes on by these messages
pub record Yields (old : IntakeState) (given left : Option (List ℕ)) (out : List (List ℕ)) (new : IntakeState) : Type 0 where
  pub piece : List ℕ
  pub is_piece : IsPiece old.most given left piece
  pub sound : old.framing.fault ≡ None
  pub goes_on : Continues old.framing piece out new.framing
  pub turn : UsesTurn old new

-- the stream ended where no message was begun
pub record Ends (old : IntakeState) (given left : Option (List ℕ)) (new : IntakeState) : Type 0 where
  pub read : Consumes given left []
  pub end : IsAtEnd left
  pub whole : old.framing ≡ nothing_fed
  pub same : new.framing ≡ old.framing
  pub turn : UsesTurn old new

-- nothing was read, and all is as it was
pub record IsIdle (old : IntakeState) (given left : Option (List ℕ)) (new : IntakeState) : Type 0 where
  pub read : Consumes given left []
  pub same : new ≡ old

-- a piece was read, and it shows this fault before any message more is whole
pub record Faults (fault : DecodeError) (old : IntakeState) (given left : Option (List ℕ)) (new : IntakeState) : Type 0 where
  pub piece : List ℕ
  pub is_piece : IsPiece old.most given left piece
  pub sound : old.framing.fault ≡ None
  pub fault_is : new.framing.fault ≡ Some fault
  pub goes_on : Continues old.framing piece [] new.framing
  pub turn : UsesTurn old new

-- the stream has this fault: it showed behind the messages of an earlier piece, or it shows in the one that is read now
abbrev pub StreamHasFault : DecodeError → IntakeState → Option (List ℕ) → Option (List ℕ) → IntakeState → Type 0
StreamHasFault fault old given left new = ((old.framing.fault ≡ Some fault) × IsIdle old given left new) ⊎ Faults fault old given left new

-- the stream ended inside a message
pub record EndsInside (old : IntakeState) (given left : Option (List ℕ)) (new : IntakeState) : Type 0 where
  pub read : Consumes given left []
  pub end : IsAtEnd left
  pub sound : old.framing.fault ≡ None
  pub pending : 0 < length old.framing.pending
  pub same : new.framing ≡ old.framing
  pub turn : UsesTurn old new

-- the reader failed, and gave nothing
pub record FailsToRead (old : IntakeState) (given left : Option (List ℕ)) (new : IntakeState) : Type 0 where
  pub read : Consumes given left []
  pub sound : old.framing.fault ≡ None
  pub same : new.framing ≡ old.framing
  pub turn : UsesTurn old new

-- a piece was read and found no memory: it is no part of the stream
pub record LosesPiece (old : IntakeState) (given left : Option (List ℕ)) (new : IntakeState) : Type 0 where
  pub piece : List ℕ
  pub is_piece : IsPiece old.most given left piece
  pub sound : old.framing.fault ≡ None
  pub same : new.framing ≡ old.framing
  pub turn : UsesTurn old new

-- why nothing more is handed out, by its cause
abbrev pub StopsIntake : Fault → IntakeState → Option (List ℕ) → Option (List ℕ) → IntakeState → Type 0
StopsIntake Read old given left new = FailsToRead old given left new
StopsIntake (Framing BadVersion) old given left new = StreamHasFault frame.BadVersion old given left new
StopsIntake (Framing BadLength) old given left new = StreamHasFault frame.BadLength old given left new
StopsIntake (Framing CutOff) old given left new = EndsInside old given left new
StopsIntake Turns old given left new = (old.framing.fault ≡ None) × (old.turns ≡ 0) × IsIdle old given left new
StopsIntake OutOfMemory old given left new = LosesPiece old given left new

-- whether the reader has failed after a fault: where its failure is the fault, and else as before
abbrev pub reader_after : Fault → Bool → Bool
reader_after Read was = true
reader_after (Framing why) was = was
reader_after Turns was = was
reader_after OutOfMemory was = was

-- what a framer's refusal is called here; a framer refuses by BadVersion, BadLength and want of memory alone, and in the others a length is
-- wrong too
abbrev pub intake_fault : DecodeError → Fault
intake_fault frame.BadVersion = Framing BadVersion
intake_fault frame.BadLength = Framing BadLength
intake_fault frame.ShortHeader = Framing BadLength
intake_fault frame.BadSetLength = Framing BadLength
intake_fault frame.TemplateOverrun = Framing BadLength
intake_fault frame.OutOfMemory = OutOfMemory
