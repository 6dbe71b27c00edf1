-- What recording does to a run.
use Rattle.std.specs.Prelude.{◌≡◌, List, []}
use Rattle.event_journal.specs.declared.entry.Entry.{Entry}
use Rattle.mediator_state.specs.Calls.{StateStandsFor}
use Rattle.mediator_state.specs.Seen.{handed_place}
use Rattle.mediator_offline.specs.declared.run.OfflineRun.{OfflineRun}
use Rattle.mediator_offline.specs.Runs.{sizes_tell, audit_count, SameButState}

-- the audit was drained
pub record Records {Q : Type 0} (old new : OfflineRun Q) : Type 0 where
  pub same : SameButState old new
  pub sent : new.sent ≡ old.sent
  pub place : handed_place new.state.engine 1 ≡ handed_place old.state.engine 1
  pub stands : (h : List Entry) → StateStandsFor sizes_tell old.state h → StateStandsFor sizes_tell new.state h
  pub quiet : audit_count new ≡ 0
