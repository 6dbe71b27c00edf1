-- How a mediator is seen in what it stores, and what it keeps of that.
use Rattle.std.specs.Prelude.{◌≡◌, ℕ, List, map}
use Rattle.disclosure_audit.specs.Kept.{KeptEntries}
use Rattle.event_journal.specs.declared.entry.Entry.{Entry}
use Rattle.event_journal.specs.Kept.{KeptJournal}
use Rattle.event_journal.specs.Room.{JournalLimits}
use Rattle.mediator_state.specs.declared.engine.Engine.{Engine}
use Rattle.mediator_state.specs.declared.state.State.{State}
use Rattle.mediator_state.specs.Seen.{handed_place}
use Rattle.mediator_state.specs.Calls.{StateStandsFor}
use Rattle.mediator_calls.specs.Mediation.{Place, Mediation, live}
use Rattle.mediator_calls.specs.Held.{IsHeld}

-- the state of a mediator, which keeps its history and the entries of its audit
abbrev pub KeptState : Type 0
KeptState = State KeptJournal KeptEntries

abbrev pub engine_place : {Q : Type 0} → Engine Q → ℕ → Place
engine_place e sub = record { sub = sub; reached = handed_place e sub }

abbrev pub view_of : KeptState → Mediation
view_of s = record {
  history = s.chronicle.entries;
  places = map (engine_place s.engine) (live s.chronicle.entries);
  drained = s.engine.audit.standing.drained;
  limits = record {
    queue = s.engine.limits.queue;
    shapes = s.engine.limits.shapes;
    audit = s.engine.audit.limit;
    entries = s.chronicle.limits.entries;
    octets = s.chronicle.limits.octets;
  };
}

-- a journal tells the history of its entries
abbrev pub tells : KeptJournal → List Entry → Type 0
tells j h = j.entries ≡ h

abbrev pub limits_of : KeptJournal → JournalLimits
limits_of j = j.limits

-- the state stands for its journal
abbrev pub StandsForJournal : KeptState → Type 0
StandsForJournal s = StateStandsFor tells s s.chronicle.entries

-- so it does, and holds no more than its limits allow
pub record IsStateKept (s : KeptState) : Type 0 where
  pub stands : StandsForJournal s
  pub held : IsHeld (view_of s)
