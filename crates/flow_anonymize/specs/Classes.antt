-- The classes of a record's addresses, on both sides.
use Rattle.std.specs.Prelude.{ℕ, List, Option, Some, None}
use Rattle.ipfix_template.specs.DataRecord.{DataRecord}
use Rattle.policy_judge.specs.Occurrences.{sources, destinations}
use Rattle.rule_table.specs.Classes.{class_key}
use Rattle.flow_anonymize.specs.declared.record_classes.RecordClasses.{RecordClasses}

abbrev pub both : Option ℕ → Option ℕ → Option RecordClasses
both None to = None
both (Some from) None = None
both (Some from) (Some to) = Some (record { sources = from; destinations = to })

-- none where there are more than three addresses on a side
abbrev pub classes_of : List ℕ → DataRecord → Option RecordClasses
classes_of cuts r = both (class_key cuts (sources r)) (class_key cuts (destinations r))
