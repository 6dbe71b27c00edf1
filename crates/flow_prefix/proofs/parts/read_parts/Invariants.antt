use Rattle.std.proofs.Common.{◌≡◌, length}
use Rattle.flow_prefix.specs.Parts.{added_parts, counted_parts, FitsFamily}
use Rattle.flow_prefix.specs.Reading.{parts_of}
use Rattle.flow_prefix.proofs.parts.read_parts.Given as goal

abbrev pub invariant-words : goal.invariant-words
invariant-words l = record {
  reading : added_parts l.family l.parts (parts_of l.family l.rest) ≡ counted_parts l.family (parts_of l.family l.text);
  is_counted : FitsFamily l.family l.parts;
}

abbrev pub decreases-words : goal.decreases-words
decreases-words l = length l.rest
