use Rattle.std.proofs.Common.{ℕ}
use Rattle.octet_io.specs.Device.{device_inner}
use Rattle.octet_io.specs.Moments.{reader_of, writer_of}
use Rattle.ipmd_explain.specs.Reading.{IsExplainedTo}
use Rattle.ipmd_explain.proofs.reading.explain_source.Given as goal

abbrev pub invariant-entries : goal.invariant-entries
invariant-entries g l =
    IsExplainedTo l.fn.question (reader_of (g.S.Source.remaining l.fn.source) (g.S.Source.remaining l.source)) (writer_of (g.O.Write.contents (device_inner l.fn.output)) (g.O.Write.contents (device_inner l.output))) l.reader l.verifier l.explainer

abbrev pub decreases-entries : goal.decreases-entries
decreases-entries g l = l.reader.left
