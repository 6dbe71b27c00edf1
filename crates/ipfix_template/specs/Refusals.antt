-- Why a template and values were made no record.
use Rattle.ipfix_template.specs.declared.data_record.NotMade.{NotMade}
use Rattle.ipfix_template.specs.declared.data_record.NotMade.TheVariants.{NoRecord, OutOfMemory}
use Rattle.ipfix_template.specs.DataRecord.{DataRecord, IsSound}

-- they are none, or they are one that found no memory
abbrev pub IsWhy : NotMade → DataRecord → Type 0
IsWhy NoRecord r = IsSound r → ⊥
IsWhy OutOfMemory r = IsSound r
