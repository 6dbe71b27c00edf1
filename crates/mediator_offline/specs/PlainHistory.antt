-- The history of a run in plain words.
use Rattle.std.specs.Prelude.{ℕ, List, ◌++◌, map}
use Rattle.std.specs.List.{enumerate_from}
use Rattle.event_journal.specs.declared.entry.Entry.{Entry}
use Rattle.event_journal.specs.declared.entry.Entry.TheVariants.{Message}
use Rattle.mediator_offline.specs.declared.job.OfflineJob.{OfflineJob}
use Rattle.mediator_offline.specs.Offline.{first_entries}

-- a session's messages from the nth on, each with the number of those before it
abbrev pub entries_from : ℕ → List (List ℕ) → List Entry
entries_from n messages = map (λ m. Message 1 m.0 m.1) (enumerate_from n messages)

-- the policy, the subscription and the session, and then the messages in their order
abbrev pub plain_history : OfflineJob → List (List ℕ) → List Entry
plain_history job messages = first_entries job ++ entries_from 0 messages
