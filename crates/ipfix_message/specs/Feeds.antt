-- A stream that comes in pieces, whatever they are.
use Rattle.std.specs.Prelude.{◌≡◌, ℕ, List, [], ◌∷◌, ◌++◌, Result, Ok, Err, IfOk, IfErr}
use Rattle.ipfix_message.specs.declared.fault.Fault.{Fault}
use Rattle.ipfix_message.specs.declared.fault.Fault.TheVariants.{ShortHeader, BadVersion, BadLength, BadSetLength, TemplateOverrun, OutOfMemory}
use Rattle.ipfix_message.specs.Framing.{IsFramed}
use Rattle.ipfix_message.specs.FramerState.{FramerState, nothing_fed, FeedGoesOn, FailsBy}

-- a call of feed: its piece, and what it answered
pub record Feed : Type 0 where
  pub piece : List ℕ
  pub answer : Result (List (List ℕ)) Fault

-- what a call does: what the contract of feed says in `ok` and `err`
pub record Feeds (old : FramerState) (f : Feed) (new : FramerState) : Type 0 where
  pub ok : IfOk f.answer (λ out. FeedGoesOn old f.piece out new)
  pub err : IfErr f.answer (λ e. FailsBy e old f.piece new)

-- calls, one after another
abbrev pub AreFed : FramerState → List Feed → FramerState → Type 0
AreFed old [] new = new ≡ old
AreFed old (f ∷ feeds) new = (between : FramerState) × Feeds old f between × AreFed between feeds new

-- a piece that is refused for memory is no part of the stream
abbrev pub octets_taken : Result (List (List ℕ)) Fault → List ℕ → List ℕ
octets_taken (Ok out) piece = piece
octets_taken (Err BadVersion) piece = piece
octets_taken (Err BadLength) piece = piece
octets_taken (Err ShortHeader) piece = piece
octets_taken (Err BadSetLength) piece = piece
octets_taken (Err TemplateOverrun) piece = piece
octets_taken (Err OutOfMemory) piece = []

-- the stream: the pieces joined
abbrev pub stream_of : List Feed → List ℕ
stream_of [] = []
stream_of (f ∷ feeds) = octets_taken f.answer f.piece ++ stream_of feeds

abbrev pub messages_in : Result (List (List ℕ)) Fault → List (List ℕ)
messages_in (Ok out) = out
messages_in (Err e) = []

-- the messages that the calls answered, in their order
abbrev pub messages_of : List Feed → List (List ℕ)
messages_of [] = []
messages_of (f ∷ feeds) = messages_in f.answer ++ messages_of feeds

-- whatever the pieces: the messages answered, the fault and the octets pending are those of the pieces joined
abbrev pub IsFramedByPieces : Type 0
IsFramedByPieces =
    (feeds : List Feed) (end : FramerState) → AreFed nothing_fed feeds end → IsFramed (stream_of feeds) (messages_of feeds) end.fault end.pending

-- one stream, cut into pieces in two ways, gives the same messages, and the same state
abbrev pub IsSameInAnyPieces : Type 0
IsSameInAnyPieces =
    (feeds others : List Feed) (end other : FramerState) → AreFed nothing_fed feeds end → AreFed nothing_fed others other → stream_of feeds ≡ stream_of others → (messages_of feeds ≡ messages_of others) × (end.fault ≡ other.fault) × (end.pending ≡ other.pending)
