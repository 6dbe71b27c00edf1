-- Which device has failed where a run stops.
use Rattle.std.proofs.Common.{◌≡◌, Bool, false, List, ℕ, Option, refl, ap, ◌∙◌}
use Rattle.mediator_offline.specs.declared.run.OfflineRun.{OfflineRun}
use Rattle.mediator_state.specs.declared.fault.Fault.TheVariants as fault
use Rattle.mediator_offline.specs.declared.job.Fault.{Fault}
use Rattle.mediator_offline.specs.declared.job.Fault.TheVariants.{Write, Mediator, AuditWrite}
use Rattle.mediator_offline.specs.Failing.{output_after, audit_after, FailsOnly, StopsLines}
use Rattle.mediator_offline.specs.Gathering.{StopsGathered}
use Rattle.mediator_offline.specs.Pulling.{StopsDelivery, FailsDelivery}

-- a fault that was handed on, where the device was before as at first
pub handed_on : (f : Fault → Bool → Bool) (e x : Fault) (had mid now : Bool) → e ≡ x → now ≡ f x mid → mid ≡ had → now ≡ f e had
handed_on f e x had mid now is fails same = rw is (fails ∙ ap (f x) same)

pub only_then : (e x : Fault) (had mid audit_had audit_mid r w a : Bool) → e ≡ x → mid ≡ had → audit_mid ≡ audit_had → FailsOnly x mid audit_mid r w a → FailsOnly e had audit_had r w a
only_then e x had mid audit_had audit_mid r w a is same audit_same fails =
    rw is (record { reader = fails.reader; writer = fails.writer ∙ ap (output_after x) same; audit = fails.audit ∙ ap (audit_after x) audit_same })

-- of the lines of the audit, the audit's writer alone can fail
pub lines_only : (e x : Fault) (had w audit_had a : Bool) → e ≡ x → StopsLines x a → a ≡ audit_after x audit_had → w ≡ had → FailsOnly e had audit_had false w a
lines_only e x had w audit_had a is cause fails same = rw is (only x cause fails)
  where
    only : (y : Fault) → StopsLines y a → a ≡ audit_after y audit_had → FailsOnly y had audit_had false w a
    only AuditWrite c f = record { reader = refl; writer = same; audit = f }
    only (Mediator fault.OutOfMemory) c f = record { reader = refl; writer = same; audit = f }
    only _ c f = absurd c

-- of a delivery, the writer alone
pub delivery_only : {Q : Type 0} (e x : Fault) (d : OfflineRun Q) (gathered : List ℕ) (held holds : Option (List ℕ)) (had w audit_had : Bool) → e ≡ x → FailsDelivery x d gathered held holds w → w ≡ output_after x had → FailsOnly e had audit_had false w audit_had
delivery_only e x d gathered held holds had w audit_had is delivery fails = rw is (only x delivery.stops fails)
  where
    only : (y : Fault) → StopsDelivery y d gathered held holds w delivery.messages → w ≡ output_after y had → FailsOnly y had audit_had false w audit_had
    only (Write sent) s f = record { reader = refl; writer = f; audit = refl }
    only (Mediator fault.OutOfMemory) s f = record { reader = refl; writer = f; audit = refl }
    only _ s f = absurd s

-- of what is written in the end, the writer alone
pub gathered_only : (e x : Fault) (sent : ℕ) (gathered : List ℕ) (held holds : Option (List ℕ)) (had w audit_had a : Bool) → e ≡ x → StopsGathered x sent gathered held holds w → a ≡ audit_had → FailsOnly e had audit_had false w a
gathered_only e x sent gathered held holds had w audit_had a is stops same = rw (is ∙ stops.is) (record { reader = refl; writer = stops.inside.failed; audit = same })

-- a writer that has failed no more since
pub writer_since : (e : Fault) (had audit_had mid now a : Bool) → now ≡ mid → FailsOnly e had audit_had false mid a → FailsOnly e had audit_had false now a
writer_since e had audit_had mid now a same only = record { reader = only.reader; writer = same ∙ only.writer; audit = only.audit }
