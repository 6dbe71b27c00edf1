-- The open sessions, as contracts see them.
use Rattle.std.specs.Prelude.{◌≡◌, ◌+◌, ℕ, List, [], ◌∷◌, Option, Some, None}
use Rattle.ipfix_session.specs.Standing.{SessionStanding, StandsFor}
use Rattle.ipfix_session.specs.ReadAhead.{Ahead, IsReadingOf}
use Rattle.mediator_tables.specs.declared.open_session.OpenSession.{OpenSession}

-- an open session, whatever room is made in it: how many of its messages were accepted, and what it keeps of each domain
pub record SeenSession : Type 0 where
  pub accepted : ℕ
  pub standing : SessionStanding

abbrev pub seen : OpenSession → SeenSession
seen o = record { accepted = o.accepted; standing = o.session.standing }

-- a session of which no message was accepted yet
abbrev pub IsFresh : OpenSession → Type 0
IsFresh o = (o.accepted ≡ 0) × StandsFor o.session []

-- a session is open and stays so: what was read is its next message, which it counts, and for which it stands with those before it
abbrev pub KeepsOn : Ahead → Option OpenSession → Option OpenSession → Type 0
KeepsOn reading (Some s) (Some t) = (t.accepted ≡ s.accepted + 1) × ((older : List (List ℕ)) (message : List ℕ) → StandsFor s.session older → IsReadingOf older message reading → StandsFor t.session (message ∷ older))
KeepsOn reading (Some s) None = ⊥
KeepsOn reading None new = ⊥
