-- What a Framer is seen as, and what a call does to it.
use Rattle.std.specs.Prelude.{◌≡◌, ◌⊎◌, ℕ, List, [], ◌++◌, Option, Some, None, IsSome, IfSome}
use Rattle.ipfix_message.specs.declared.fault.Fault.{Fault}
use Rattle.ipfix_message.specs.declared.fault.Fault.TheVariants.{ShortHeader, BadVersion, BadLength, BadSetLength, TemplateOverrun, OutOfMemory}
use Rattle.ipfix_message.specs.Framing.{IsFramed, EndsStream}

-- the fault that the stream had, and the octets of a message that isn't whole yet
pub record FramerState : Type 0 where
  pub fault : Option Fault
  pub pending : List ℕ

-- before any octet
abbrev pub nothing_fed : FramerState
nothing_fed = record { fault = None; pending = [] }

-- the fault is one that a stream may have, and after a fault nothing is pending
pub record IsFramerState (s : FramerState) : Type 0 where
  pub of_stream : IfSome s.fault EndsStream
  pub emptied : IsSome s.fault → s.pending ≡ []

-- whatever came before, with whichever messages: with the piece it is those messages and then these, and new says how it ends
pub record Continues (old : FramerState) (piece : List ℕ) (out : List (List ℕ)) (new : FramerState) : Type 0 where
  pub after : (fed : List ℕ) (messages : List (List ℕ)) → IsFramed fed messages old.fault old.pending → IsFramed (fed ++ piece) (messages ++ out) new.fault new.pending

-- what feed says where it answers messages: no fault was there, and with the piece the stream goes on by them
abbrev pub FeedGoesOn : FramerState → List ℕ → List (List ℕ) → FramerState → Type 0
FeedGoesOn old piece out new = (old.fault ≡ None) × Continues old piece out new

-- a fault that was there, and stays; or one that this piece brings before any message is whole
abbrev pub HasFault : Fault → FramerState → List ℕ → FramerState → Type 0
HasFault fault old piece new =
    ((old.fault ≡ Some fault) × (new ≡ old)) ⊎ ((old.fault ≡ None) × (new.fault ≡ Some fault) × Continues old piece [] new)

-- what feed says where it answers an error: how the stream stands then; a piece that is refused for memory changes nothing, and no
-- other error is answered
abbrev pub FailsBy : Fault → FramerState → List ℕ → FramerState → Type 0
FailsBy BadVersion old piece new = HasFault BadVersion old piece new
FailsBy BadLength old piece new = HasFault BadLength old piece new
FailsBy OutOfMemory old piece new = (old.fault ≡ None) × (new ≡ old)
FailsBy ShortHeader old piece new = ⊥
FailsBy BadSetLength old piece new = ⊥
FailsBy TemplateOverrun old piece new = ⊥
