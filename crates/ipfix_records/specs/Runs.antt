-- Data Records of one template that are kept together, and lists of such runs (RFC 7011, sections 3.3.1 and 3.4.3).
use Rattle.std.specs.Prelude.{ℕ, List, map}
use Rattle.std.specs.List.{AllByRecursion, flat_map}
use Rattle.ipfix_template.specs.declared.template.Template.{Template}
use Rattle.ipfix_template.specs.DataRecord.{DataRecord, IsKept, kept_record}

-- a template, and the octets of each record's values
pub record RunOf : Type 0 where
  pub template : Template
  pub texts : List (List ℕ)

-- each text is a record's, and stands as records are kept
abbrev pub IsKeptRun : RunOf → Type 0
IsKeptRun run = AllByRecursion (IsKept run.template) run.texts

-- its records
abbrev pub run_records : RunOf → List DataRecord
run_records run = map (kept_record run.template) run.texts

-- the records of runs, one run after another
abbrev pub records_of_runs : List RunOf → List DataRecord
records_of_runs runs = flat_map run_records runs
