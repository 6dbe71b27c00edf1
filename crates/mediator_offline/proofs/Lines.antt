-- Lines that are written one after another.
use Rattle.std.proofs.Common.{◌≡◌, ℕ, Bool, true, false, List, [], ◌++◌, Option, refl}
use Rattle.std.specs.Io.KnownBytes.{Appends}
use Rattle.std.proofs.KnownBytes.{Appends-nil}
use Rattle.std.proofs.lemmas.Grind.{flat_map-append}
use Rattle.disclosure_audit.specs.declared.entry.AuditEntry.{AuditEntry}
use Rattle.disclosure_audit.specs.Lines.{audit_line}
use Rattle.mediator_offline.specs.Lines.{lines_for, audit_text}

pub lines_for-asked : (asked : Bool) (entries : List AuditEntry) → asked ≡ true → lines_for asked entries ≡ audit_text entries
lines_for-asked asked entries is = rw is refl

-- what was not asked for is written where nothing is
pub unasked : (a : Option (List ℕ)) (asked : Bool) (entries : List AuditEntry) → asked ≡ false → Appends a a (lines_for asked entries)
unasked a asked entries is = rw is (Appends-nil a)

pub lines_for-none : (asked : Bool) → lines_for asked [] ≡ []
lines_for-none true = refl
lines_for-none false = refl

-- the lines that are asked for of some entries and of others behind them
pub lines_for-append : (asked : Bool) (some more : List AuditEntry) → lines_for asked (some ++ more) ≡ lines_for asked some ++ lines_for asked more
lines_for-append true some more = flat_map-append audit_line some more
lines_for-append false some more = refl
