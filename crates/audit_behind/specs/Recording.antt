-- What the audit's thread does with the entries that come through the ring.
use Rattle.std.specs.Prelude.{ℕ, List, Option, drop}
use Rattle.std.specs.List.{flat_map}
use Rattle.std.specs.Global.{Vec}
use Rattle.std.specs.Io.KnownBytes.{Appends, Keeps, append_known}
use Rattle.octet_io.specs.Device.{device_inner}
use Rattle.rtrb.specs.Ring.{sent, received, SameConsumer}
use Rattle.rtrb.specs.declared.producer.Producer.{Producer}
use Rattle.disclosure_audit.specs.declared.entry.AuditEntry.{AuditEntry}
use Rattle.mediator_offline.specs.Lines.{audit_text}
use Rattle.audit_behind.specs.declared.thread.Ended.{Ended}
use Rattle.audit_behind.specs.declared.thread.Owed.{Owed}

-- the lines of lists of entries, one after another
abbrev pub texts : List (Vec AuditEntry) → List ℕ
texts lists = flat_map (λ (entries : Vec AuditEntry). audit_text entries.items) lists

module _ {W : Type 0} where
  -- what was not written of the lines of the entries that were taken out of the ring
  abbrev pub lines_left : Ended W → List ℕ
  lines_left ended = drop ended.sent (audit_text ended.entries.items)

  -- the same end of the ring comes back, and the device: the lines of all that came through the ring stand behind what it held, but for
  -- those that were not written
  pub record GivesBack (contents : W → Option (List ℕ)) (owed : Owed W) (ended : Ended W) : Type 0 where
    pub ring : SameConsumer owed.ring.value ended.ring
    pub passed : Appends (contents (device_inner owed.device.value)) (append_known (contents (device_inner ended.device)) (lines_left ended))
        (texts (received ended.ring))

  -- what is held when the thread has ended: what the device held when it began, the lines of all that was handed over, and those of the
  -- entries that were still gathered
  abbrev pub SettlesTo : {A P : Type 0} → (W → Option (List ℕ)) → Ended W → Producer (Vec AuditEntry) A P → Vec AuditEntry → Option (List ℕ) → Type 0
  SettlesTo contents ended producer gathered holds =
      (first : Option (List ℕ)) → Appends first (append_known (contents (device_inner ended.device)) (lines_left ended)) (texts (received ended.ring))
      → Keeps (append_known (append_known first (texts (sent producer))) (audit_text gathered.items)) holds
