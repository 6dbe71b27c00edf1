-- Which sessions are open, and the messages of a session.
use Rattle.std.specs.Prelude.{ℕ, Bool, true, false, List, [], ◌∷◌, length, reverse, Option, Some, None, if◌then◌else◌, ◌==◌}
use Rattle.std.specs.List.{flat_map}
use Rattle.sequences.specs.Before.{last_of}
use Rattle.event_journal.specs.declared.entry.Entry.{Entry}
use Rattle.event_journal.specs.declared.entry.Entry.TheVariants.{Open, Close, Message}

-- whether the entry opens the session, or closes it
abbrev pub opens : ℕ → Entry → Option Bool
opens session (Open s) = if s == session then Some true else None
opens session (Close s) = if s == session then Some false else None
opens session _ = None

-- opened, and not closed
abbrev pub is_open : ℕ → List Entry → Bool
is_open session h = last_of (opens session) false h

abbrev pub opened_in : Entry → List ℕ
opened_in (Open session) = session ∷ []
opened_in _ = []

-- how many sessions were opened
abbrev pub sessions_opened : List Entry → ℕ
sessions_opened h = length (flat_map opened_in h)

-- the message that an entry brings to the session
abbrev pub message_in : ℕ → Entry → List (List ℕ)
message_in session (Message s number octets) = if s == session then octets ∷ [] else []
message_in session _ = []

-- the messages of a session, newest first
abbrev pub messages_of : ℕ → List Entry → List (List ℕ)
messages_of session h = reverse (flat_map (message_in session) h)
