-- Where the cause of a refusal for want of room stands, the call isn't accepted.
use Rattle.std.specs.Prelude.{ℕ, List}
use Rattle.mediator_state.specs.declared.fault.Fault.TheVariants.{AuditFull}
use Rattle.mediator_state.specs.declared.receipt.Receipt.{Receipt}
use Rattle.mediator_calls.specs.Mediation.{Mediation}
use Rattle.mediator_calls.specs.Sound.{IsSoundMediation}
use Rattle.mediator_calls.specs.Calls.{Receives, RefusesReceive, Advances, RefusesAdvance}

-- a message for which the audit has no room
abbrev pub FullAuditRefusesMessage : Type 0
FullAuditRefusesMessage = (m new : Mediation) (session number need room : ℕ) (octets : List ℕ) (r : Receipt)
    → IsSoundMediation m → RefusesReceive (AuditFull need room) m session number octets → Receives m session number octets r new → ⊥

-- an advance of the clock for whose cuts the audit has no room
abbrev pub FullAuditRefusesAdvance : Type 0
FullAuditRefusesAdvance = (m new : Mediation) (t need room : ℕ) → IsSoundMediation m → RefusesAdvance (AuditFull need room) m t → Advances m t new → ⊥
