-- Refusals of calls that read alone.
use Rattle.std.specs.Prelude.{◌≡◌, ℕ, false, List}
use Rattle.event_journal.specs.declared.entry.Entry.{Entry}
use Rattle.mediator_history.specs.Subscriptions.{is_live}
use Rattle.mediator_state.specs.declared.fault.Fault.{Fault}
use Rattle.mediator_state.specs.declared.fault.Fault.TheVariants as fault

abbrev pub RefusesStatus : Fault → List Entry → ℕ → Type 0
RefusesStatus fault.UnknownSub h sub = is_live sub h ≡ false
RefusesStatus _ h sub = ⊥

-- want of memory alone
abbrev pub RefusesDrain : Fault → Type 0
RefusesDrain fault.OutOfMemory = Unit {0}
RefusesDrain _ = ⊥
