-- Which policies and names a run accepts.
use Rattle.std.specs.Prelude.{◌≡◌, ◌⊎◌, true, false, [], Err}
use Rattle.policy_text.specs.Naming.{is_name}
use Rattle.policy_text.specs.Parsing.{policy_of}
use Rattle.event_journal.specs.Room.{HasRoomAfter}
use Rattle.mediator_state.specs.declared.fault.Fault.{Fault as MediatorFault}
use Rattle.mediator_state.specs.declared.fault.Fault.TheVariants as fault
use Rattle.mediator_state.specs.Calls.{HasPolicy}
use Rattle.mediator_offline.specs.declared.job.OfflineJob.{OfflineJob}
use Rattle.mediator_offline.specs.Offline.{first_edit, first_entries, offline_journal_limits}

-- a run accepts the job: its text spells a policy, and its name is one; and the journal has room for both
pub record IsAcceptedJob (job : OfflineJob) : Type 0 where
  pub policy : HasPolicy job.policy.now
  pub name : is_name job.name.now ≡ true
  pub room : HasRoomAfter offline_journal_limits [] (first_entries job)

-- the whole run is refused so: the policy is judged first, then room for it in the journal, then the name, and then room
-- for the rest
abbrev pub RefusesJob : MediatorFault → OfflineJob → Type 0
RefusesJob (fault.Policy why) job = policy_of job.policy.now ≡ Err why
RefusesJob fault.BadName job = HasPolicy job.policy.now × HasRoomAfter offline_journal_limits [] (first_edit job) × (is_name job.name.now ≡ false)
RefusesJob fault.JournalFull job =
    HasPolicy job.policy.now × ((HasRoomAfter offline_journal_limits [] (first_edit job) → ⊥) ⊎ ((is_name job.name.now ≡ true) × (HasRoomAfter offline_journal_limits [] (first_entries job) → ⊥)))
RefusesJob fault.OutOfMemory job = Unit {0}
RefusesJob _ job = ⊥
