use Rattle.std.proofs.Common.{take}
use Rattle.std.specs.List.{AllByRecursion}
use Rattle.ipfix_template.specs.Template.{IsSpecifier}
use Rattle.stream_meaning.proofs.streamable.fields_for_proof.Given as goal

abbrev pub invariant-loop-field : goal.invariant-loop-field
invariant-loop-field l = AllByRecursion IsSpecifier (take l.field-index l.fields)
