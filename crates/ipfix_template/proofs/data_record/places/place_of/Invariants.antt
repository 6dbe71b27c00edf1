use Rattle.ipfix_template.specs.Places.{ArePassed}
use Rattle.ipfix_template.proofs.data_record.places.place_of.Given as goal

abbrev pub invariant-loop-before : goal.invariant-loop-before
invariant-loop-before l = ArePassed l.fields l.octets l.before l.used
