use Rattle.std.proofs.Common.{ℕ, List, Option}
use Rattle.event_journal.specs.declared.entry.Entry.{Entry as OneEntry}
use Rattle.ipmd_verify.specs.Reading.{GoesOnTo, IsReadTo}
use Rattle.ipmd_verify.proofs.reading.read_rest.Given as goal

abbrev pub invariant-entries : goal.invariant-entries
invariant-entries g l = (given : Option (List ℕ)) (h : List OneEntry) → IsReadTo given (g.S.Source.remaining l.fn.source) l.fn.reader h → GoesOnTo given (g.S.Source.remaining l.source) l.reader h

abbrev pub decreases-entries : goal.decreases-entries
decreases-entries g l = l.reader.left
