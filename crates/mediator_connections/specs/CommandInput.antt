-- Octets that are read in pieces, and handed out in lines and texts. That a connection is read by so many reads at most is this
-- project's own rule.
use Rattle.std.specs.Prelude.{◌≡◌, ◌≢◌, ◌⊎◌, ℕ, ◌+◌, ◌≤◌, ◌<◌, List, [], ◌∷◌, ◌++◌, length, Option}
use Rattle.std.specs.List.{AllByRecursion}
use Rattle.std.specs.Io.KnownBytes.{Consumes, IsAtEnd, prepend_known}
use Rattle.ipfix_reader.specs.declared.fault.FramingFault.TheVariants as framing
use Rattle.admin_text.specs.Grammar.{longest_line}
use Rattle.mediator_state.specs.declared.fault.Fault.TheVariants as fault
use Rattle.mediator_connections.specs.declared.fault.Fault.{Fault}
use Rattle.mediator_connections.specs.declared.fault.Fault.TheVariants.{Read, Framing, Turns, Mediator}

-- what was read and isn't handed out yet, and how many reads are left
pub record InputState : Type 0 where
  pub pending : List ℕ
  pub turns : ℕ

-- before the first read
abbrev pub unread : ℕ → InputState
unread turns = record { pending = []; turns = turns }

-- what is still to be handed out: what is pending, and behind it what the reader has left
abbrev pub ahead : InputState → Option (List ℕ) → Option (List ℕ)
ahead i left = prepend_known i.pending left

-- these octets were handed out; each read for them gave some
pub record HandsOutOctets (old : InputState) (given left : Option (List ℕ)) (octets : List ℕ) (new : InputState) : Type 0 where
  pub taken : Consumes (ahead old given) (ahead new left) octets
  pub reads : length old.pending + old.turns ≤ length octets + length new.pending + new.turns

-- these octets were handed out, and nothing comes behind them
pub record EndsBehind (old : InputState) (given left : Option (List ℕ)) (octets : List ℕ) : Type 0 where
  pub taken : Consumes (ahead old given) left octets
  pub end : IsAtEnd left

-- these octets are a line, which ends before the first line feed (10); of a line that is too long, one octet more than a line may have
pub record IsLine (line octets : List ℕ) : Type 0 where
  pub one : AllByRecursion (λ c. c ≢ 10) line
  pub cut : (octets ≡ line ++ 10 ∷ []) ⊎ ((octets ≡ line) × (longest_line < length line))

-- why no line and no text is handed out, behind these octets of it: the reader failed, no read is left, the input ended, or there was
-- no memory
abbrev pub StopsReading : Fault → InputState → Option (List ℕ) → Option (List ℕ) → List ℕ → InputState → Type 0
StopsReading Read old given left octets new = Consumes (ahead old given) (ahead new left) octets
StopsReading Turns old given left octets new = HandsOutOctets old given left octets new × (new.pending ≡ []) × (new.turns ≡ 0)
StopsReading (Framing framing.CutOff) old given left octets new = EndsBehind old given left octets
StopsReading (Mediator fault.OutOfMemory) old given left octets new = HandsOutOctets old given left octets new
StopsReading _ old given left octets new = ⊥

-- where the input ended inside a command, some octets of it were handed out
abbrev pub IsInside : Fault → List ℕ → Type 0
IsInside (Framing framing.CutOff) octets = 0 < length octets
IsInside _ octets = Unit {0}

-- ---- what no public clause cites

-- what is still to be handed out stays the same; something is pending, for which each read gave some octets, or the input has ended
pub record Fills (old : InputState) (given left : Option (List ℕ)) (new : InputState) : Type 0 where
  pub same : Consumes (ahead old given) (ahead new left) []
  pub reads : 0 < length new.pending → length old.pending + old.turns ≤ length new.pending + new.turns
  pub end : new.pending ≡ [] → IsAtEnd left
