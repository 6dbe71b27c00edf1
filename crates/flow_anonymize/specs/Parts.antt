-- Records of a run that stand side by side.
use Rattle.std.specs.Prelude.{ℕ, ◌-◌, List, [], take, drop, slice_index_or}
use Rattle.ipfix_template.specs.DataRecord.{DataRecord, kept_record}
use Rattle.ipfix_records.specs.Runs.{RunOf, run_records}

-- the record at a place, counted from 0
abbrev pub record_at : RunOf → ℕ → DataRecord
record_at run place = kept_record run.template (slice_index_or run.texts place [])

-- those from a place on that stand before another place
abbrev pub records_between : ℕ → ℕ → RunOf → List DataRecord
records_between from to run = take (to - from) (drop from (run_records run))
