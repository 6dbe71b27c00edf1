-- What is gathered to be written in one piece, behind what a writer holds.
use Rattle.std.specs.Prelude.{◌≡◌, ℕ, ◌+◌, ◌-◌, ◌≤◌, Bool, true, List, [], length, Option}
use Rattle.std.specs.Io.KnownBytes.{append_known}
use Rattle.octet_io.specs.Written.{WritesFront}
use Rattle.mediator_offline.specs.declared.job.Fault.{Fault}
use Rattle.mediator_offline.specs.declared.job.Fault.TheVariants.{Write}
use Rattle.mediator_offline.specs.declared.run.OfflineRun.{OfflineRun}
use Rattle.mediator_offline.specs.Ports.{Outputs}

-- what a writer holds once these octets are written to it, where that is known
abbrev pub and_gathered : Option (List ℕ) → List ℕ → Option (List ℕ)
and_gathered written gathered = append_known written gathered

-- these octets are counted as sent; and there are none where the audit is asked for, whose lines stand behind them
pub record IsGatheredFor {Q : Type 0} (d : OfflineRun Q) (gathered : List ℕ) : Type 0 where
  pub counted : length gathered ≤ d.sent
  pub unasked : d.job.audit ≡ true → gathered ≡ []

-- the writer failed inside these octets, the last of so many that are counted as sent
pub record StopsGathered (e : Fault) (sent : ℕ) (gathered : List ℕ) (held holds : Option (List ℕ)) (has_failed : Bool) : Type 0 where
  pub front : ℕ
  pub is : e ≡ Write ((sent - length gathered) + front)
  pub inside : WritesFront held holds gathered front has_failed

-- a run that stops leaves what was gathered before, its count and the outputs as they were
pub record LeavesGathered {Q : Type 0} (old new : OfflineRun Q) (gathered left : List ℕ) (before after : Outputs) : Type 0 where
  pub sent : new.sent ≡ old.sent
  pub same : left ≡ gathered
  pub outputs : after ≡ before
