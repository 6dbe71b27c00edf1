-- For which histories a session's entry in the table stands.
use Rattle.std.specs.Prelude.{◌≡◌, ℕ, true, false, List, [], length, Option, Some, None}
use Rattle.ipfix_session.specs.Standing.{StandsFor}
use Rattle.event_journal.specs.declared.entry.Entry.{Entry}
use Rattle.mediator_history.specs.Sessions.{is_open, messages_of}
use Rattle.mediator_tables.specs.declared.open_session.OpenSession.{OpenSession}

-- the session is open, and stands for its messages; or it isn't
abbrev pub IsSession : List Entry → ℕ → Option OpenSession → Type 0
IsSession h session None = is_open session h ≡ false
IsSession h session (Some o) = (is_open session h ≡ true) × (o.accepted ≡ length (messages_of session h)) × StandsFor o.session (messages_of session h)

-- a session that was never opened
pub record IsUnopened (h : List Entry) (session : ℕ) : Type 0 where
  pub closed : is_open session h ≡ false
  pub silent : messages_of session h ≡ []
