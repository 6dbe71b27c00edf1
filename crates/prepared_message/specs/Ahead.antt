-- Records of an Observation Domain (RFC 7011, section 3.1) that were judged ahead.
use Rattle.std.specs.Prelude.{ℕ, List}
use Rattle.ipfix_template.specs.DataRecord.{DataRecord}

pub record OfRecords : Type 0 where
  pub domain : ℕ
  pub records : List DataRecord
