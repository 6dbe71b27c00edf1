-- What an audit, and what keeps its entries, keep of themselves.
use Rattle.std.specs.Prelude.{◌≡◌, ℕ, ◌+◌, ◌≤◌, ◌<◌, ◌^◌, List, length}
use Rattle.disclosure_audit.specs.declared.audit.TheConstants.{MOST_ENTRIES}
use Rattle.disclosure_audit.specs.declared.entry.AuditEntry.{AuditEntry}
use Rattle.disclosure_audit.specs.declared.chunk.Chunk.{Chunk}
use Rattle.disclosure_audit.specs.Chunks.{entries_of}
use Rattle.disclosure_audit.specs.Queue.{Waiting}

-- the limits hold, and the counts fit
pub record IsConsistentAudit (w : Waiting) (limit drained : ℕ) : Type 0 where
  pub least : 1 ≤ limit
  pub most : limit ≤ MOST_ENTRIES
  pub few : w.count ≤ limit
  pub below : drained + w.count < 2 ^ 64

-- entries that are kept, oldest first, and for how many more pieces room is reserved
pub record KeptEntries : Type 0 where
  pub entries : List AuditEntry
  pub spare : ℕ

-- they are counted, and the reserved room is there
pub record AreEntriesKept (chunks : List Chunk) (capacity waiting spare : ℕ) : Type 0 where
  pub counted : waiting ≡ length (entries_of chunks)
  pub room : length chunks + spare ≤ capacity
