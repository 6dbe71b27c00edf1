use Rattle.std.proofs.Common.{◌≡◌, ◌++◌, take, map}
use Rattle.std.specs.List.{flat_map}
use Rattle.std.specs.String.{string_bytes}
use Rattle.policy_text.specs.Printing.{line_text, aggregate_words}
use Rattle.policy_text.proofs.print.put_aggregates.Given as goal

abbrev pub invariant-loop-aggregate : goal.invariant-loop-aggregate
invariant-loop-aggregate l = string_bytes l.text ≡ string_bytes l.initial.text ++ flat_map line_text (map aggregate_words (take l.aggregate-index l.aggregates))
