-- Where the cause of a refusal for want of room stands, the call isn't accepted.
use Rattle.std.proofs.Common.{◌≡◌, ℕ, ◌+◌, ◌<◌, List, ◌++◌, length, drop, ap, arith, length-append}
use Rattle.std.proofs.lemmas.List.{drop-append-le}
use Rattle.disclosure_audit.specs.declared.entry.AuditEntry.{AuditEntry}
use Rattle.event_journal.specs.declared.entry.Entry.{Entry}
use Rattle.event_journal.specs.declared.entry.Entry.TheVariants.{Message, Advance}
use Rattle.mediator_history.specs.Auditing.{audit_list}
use Rattle.mediator_calls.specs.Mediation.{Mediation, noted_at}
use Rattle.mediator_calls.specs.Sound.{IsSoundMediation}
use Rattle.mediator_calls.specs.Calls.{AuditHolds, with_cuts}
use Rattle.mediator_core.specs.Answered.{FullAuditRefusesMessage, FullAuditRefusesAdvance}

holds_not : (m : Mediation) (more : List Entry) (noted : List AuditEntry) (need room : ℕ) → IsSoundMediation m → audit_list (m.history ++ more) ≡ audit_list m.history ++ noted → need ≡ length noted → room + length (noted_at m) ≡ m.limits.audit → room < need
    → AuditHolds m more → ⊥
holds_not m more noted need room sound is needs has lacks holds = absurd (omega (
  arith,
  holds.after,
  ap (λ (l : List AuditEntry). length (drop m.drained l)) is,
  ap (λ (l : List AuditEntry). length l) (drop-append-le m.drained (audit_list m.history) noted sound.drained),
  length-append (drop m.drained (audit_list m.history)) noted,
  needs,
  has,
  lacks,
))

pub message_refused : FullAuditRefusesMessage
message_refused m new session number need room octets r sound full accepted =
    holds_not m (with_cuts m (Message session number octets)) full.3.0 need room sound full.3.1 full.3.2 full.4 full.5 accepted.audit

pub advance_refused : FullAuditRefusesAdvance
advance_refused m new t need room sound full accepted = holds_not m (with_cuts m (Advance t)) full.2.0 need room sound full.2.1 full.2.2 full.3 full.4 accepted.audit
