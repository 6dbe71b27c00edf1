use Rattle.ipmd_verify.specs.Reading.{IsFedTo}
use Rattle.ipmd_verify.proofs.reading.read_history.Given as goal

abbrev pub invariant-entries : goal.invariant-entries
invariant-entries g l = IsFedTo l.audit (g.S.Source.remaining l.fn.source) (g.S.Source.remaining l.source) l.reader l.verifier

abbrev pub decreases-entries : goal.decreases-entries
decreases-entries g l = l.reader.left
