-- What an exporter's stream adds to the receipts of its handle, and where serving it stops. That a stream is read in pieces, and by so
-- many reads at most, is this project's own rule; how its octets are cut into messages is the standard's (RFC 7011, section 10.4).
use Rattle.std.specs.Prelude.{◌≡◌, ◌⊎◌, ℕ, ◌+◌, ◌*◌, ◌<◌, ◌≤◌, List, [], ◌∷◌, ◌++◌, map, length, Option, Some, None, nat_lt, if◌then◌else◌}
use Rattle.std.specs.Io.KnownBytes.{Consumes, IsAtEnd}
use Rattle.ipfix_template.specs.declared.template.Template.{Template}
use Rattle.ipfix_message.specs.declared.fault.Fault.{Fault as DecodeError}
use Rattle.ipfix_message.specs.declared.fault.Fault.TheVariants as frame
use Rattle.ipfix_message.specs.Framing.{IsFramed}
use Rattle.ipfix_reader.specs.declared.fault.FramingFault.TheVariants as framing
use Rattle.ipfix_reader.specs.Intake.{IntakeState, AreRead, AreReadBut}
use Rattle.event_journal.specs.declared.entry.Entry.{Entry}
use Rattle.event_journal.specs.declared.entry.Entry.TheVariants.{Message}
use Rattle.shared_mediator.specs.declared.kept.KeptEntry.{KeptEntry}
use Rattle.mediator_state.specs.declared.fault.Fault.{Fault as MediatorFault}
use Rattle.mediator_state.specs.declared.fault.Fault.TheVariants as fault
use Rattle.prepared_message.specs.Widths.{IsTooWide}
use Rattle.prepared_message.specs.Holding.{CountsTooMany}
use Rattle.shared_mediator.specs.Locked.{Exporting}
use Rattle.shared_mediator.specs.Handles.{MayRefuseOffer}
use Rattle.mediator_connections.specs.declared.fault.Fault.{Fault}
use Rattle.mediator_connections.specs.declared.fault.Fault.TheVariants.{Read, Write, Framing, Turns, TooWide, TooManyCounts, Mediator}

-- ---- receipts

-- the entries of these messages of a session, numbered from this number on
abbrev pub messages_from : ℕ → ℕ → List (List ℕ) → List Entry
messages_from session number [] = []
messages_from session number (octets ∷ messages) = Message session number octets ∷ messages_from session (number + 1) messages

-- these messages were offered: each has its receipt, in their order, behind those that the handle had
pub record Offers (old new : Exporting) (messages : List (List ℕ)) : Type 0 where
  pub session : new.session ≡ old.session
  pub receipts : List KeptEntry
  pub kept : new.kept ≡ old.kept ++ receipts
  pub entries : map (λ k. k.entry) receipts ≡ messages_from old.session (length old.kept) messages

-- ---- what is read

-- the most octets of one read: it may bring four times as many where several threads prepare what it brings
abbrev pub most_read : ℕ → ℕ
most_read workers = if nat_lt 1 workers then 262144 else 65536

-- these octets are these messages, and then this fault or these octets that are pending; all of the messages were offered
pub record OffersAll (octets : List ℕ) (messages : List (List ℕ)) (faulty : Option DecodeError) (pending : List ℕ) (old new : Exporting) : Type 0 where
  pub framed : IsFramed octets messages faulty pending
  pub offers : Offers old new messages

-- all was read within the reads that are allowed, and it is whole messages, which were offered and counted
pub record Serves (most turns offered : ℕ) (given left : Option (List ℕ)) (old new : Exporting) : Type 0 where
  pub octets : List ℕ
  pub messages : List (List ℕ)
  pub taken : Consumes given left octets
  pub end : IsAtEnd left
  pub turns_made : AreReadBut most turns octets
  pub all : OffersAll octets messages None [] old new
  pub counted : offered ≡ length messages

-- ---- where it stops

-- all whole messages of these octets were offered, and these octets are pending
pub record OffersWhole (octets pending : List ℕ) (old new : Exporting) : Type 0 where
  pub messages : List (List ℕ)
  pub all : OffersAll octets messages None pending old new

-- all messages of these octets before this fault were offered
pub record OffersBefore (faulty : DecodeError) (octets : List ℕ) (old new : Exporting) : Type 0 where
  pub messages : List (List ℕ)
  pub all : OffersAll octets messages (Some faulty) [] old new

-- by the templates of some session this message is too wide to be offered; which templates the session has isn't told here
abbrev pub IsTooWideAt : List ℕ → Type 0
IsTooWideAt message = (known : List (ℕ × List (ℕ × Template))) × IsTooWide known message

-- a message of these octets is refused; those before it were offered, and none behind it
pub record RefusesOne (octets : List ℕ) (old new : Exporting) : Type 0 where
  pub before : List (List ℕ)
  pub message : List ℕ
  pub later : List (List ℕ)
  pub faulty : Option DecodeError
  pub pending : List ℕ
  pub framed : IsFramed octets (before ++ message ∷ later) faulty pending
  pub offers : Offers old new before

-- what the last read gave found no memory, or there was none before the first; all whole messages of the octets before that were offered
pub record LosesLastRead (most : ℕ) (why : MediatorFault) (octets : List ℕ) (old new : Exporting) : Type 0 where
  pub memory : why ≡ fault.OutOfMemory
  pub fed : List ℕ
  pub piece : List ℕ
  pub parts : octets ≡ fed ++ piece
  pub few : length piece ≤ most
  pub pending : List ℕ
  pub whole : OffersWhole fed pending old new

-- where it stops that has read these octets, by what cause, and which of their messages were offered
abbrev pub StopsAt : Fault → ℕ → ℕ → List ℕ → Option (List ℕ) → Exporting → Exporting → Type 0
StopsAt Read most turns octets left old new = ((pending : List ℕ) × OffersWhole octets pending old new) × AreReadBut most turns octets
StopsAt Turns most turns octets left old new = ((pending : List ℕ) × OffersWhole octets pending old new) × (turns ≤ length octets) × AreRead most turns octets
StopsAt (Framing framing.CutOff) most turns octets left old new = ((pending : List ℕ) × OffersWhole octets pending old new × (0 < length pending)) × AreReadBut most turns octets × IsAtEnd left
StopsAt (Framing framing.BadVersion) most turns octets left old new = OffersBefore frame.BadVersion octets old new × AreRead most turns octets
StopsAt (Framing framing.BadLength) most turns octets left old new = OffersBefore frame.BadLength octets old new × AreRead most turns octets
StopsAt (Mediator why) most turns octets left old new = ((RefusesOne octets old new × MayRefuseOffer why) ⊎ LosesLastRead most why octets old new) × AreRead most turns octets
StopsAt TooWide most turns octets left old new = ((one : RefusesOne octets old new) × IsTooWideAt one.message) × AreRead most turns octets
StopsAt TooManyCounts most turns octets left old new = ((one : RefusesOne octets old new) × CountsTooMany one.message) × AreRead most turns octets
StopsAt _ most turns octets left old new = ⊥

-- octets were read, and it stops so
pub record StopsServing (e : Fault) (most turns : ℕ) (given left : Option (List ℕ)) (old new : Exporting) : Type 0 where
  pub octets : List ℕ
  pub taken : Consumes given left octets
  pub stops : StopsAt e most turns octets left old new

-- ---- what no public clause cites

-- why a message isn't offered: the mediator refuses it, it's too wide, or too many of its records count
abbrev pub IsRefusalOf : Fault → List ℕ → Type 0
IsRefusalOf (Mediator why) message = MayRefuseOffer why
IsRefusalOf TooWide message = IsTooWideAt message
IsRefusalOf TooManyCounts message = CountsTooMany message
IsRefusalOf Read message = ⊥
IsRefusalOf (Write sent) message = ⊥
IsRefusalOf (Framing why) message = ⊥
IsRefusalOf Turns message = ⊥

-- one of these messages is refused; those before it were offered
pub record RefusesAmong (e : Fault) (old new : Exporting) (messages : List (List ℕ)) : Type 0 where
  pub before : List (List ℕ)
  pub message : List ℕ
  pub later : List (List ℕ)
  pub is : IsRefusalOf e message
  pub parts : messages ≡ before ++ message ∷ later
  pub offers : Offers old new before

-- how far it has come: all messages that are whole so far were offered
pub record Reaches (most turns : ℕ) (i : IntakeState) (given left : Option (List ℕ)) (old new : Exporting) : Type 0 where
  pub octets : List ℕ
  pub messages : List (List ℕ)
  pub taken : Consumes given left octets
  pub all : OffersAll octets messages i.framing.fault i.framing.pending old new
  pub many : turns ≤ length octets + i.turns
  pub widest : i.most ≤ most
  pub few : length octets + most * i.turns ≤ most * turns
