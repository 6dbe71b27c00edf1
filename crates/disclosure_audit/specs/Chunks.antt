-- The entries of an audit, as they are kept.
use Rattle.std.specs.Prelude.{List, [], ◌∷◌, map, drop}
use Rattle.std.specs.List.{flat_map}
use Rattle.disclosure_audit.specs.declared.entry.AuditEntry.{AuditEntry}
use Rattle.disclosure_audit.specs.declared.chunk.Chunk.{Chunk}
use Rattle.disclosure_audit.specs.declared.chunk.Chunk.TheVariants.{One, Message}
use Rattle.disclosure_audit.specs.Queue.{stamp}

-- the entries of a chunk, oldest first
abbrev pub entries_in : Chunk → List AuditEntry
entries_in (One entry) = entry ∷ []
entries_in (Message position notes drained) = map (stamp position) (drop drained notes)

abbrev pub entries_of : List Chunk → List AuditEntry
entries_of chunks = flat_map entries_in chunks
