-- The parts of a list of records: before each record that is the first of its shape an announcement, then the record (RFC 7011,
-- section 8; one announcement for each shape is this project's own rule).
use Rattle.std.specs.Prelude.{ℕ, List, [], ◌∷◌, if◌then◌else◌}
use Rattle.std.specs.List.{flat_map}
use Rattle.sequences.specs.Before.{each_with_before}
use Rattle.ipfix_template.specs.declared.template.Template.{Template}
use Rattle.ipfix_template.specs.DataRecord.{DataRecord}
use Rattle.subscriber_stream.specs.Shapes.{is_among, shapes_of, id_of}

-- a template under its ID, or a record under the ID of its template
pub data Part : Type 0 where
  Announcement : ℕ → Template → Part
  Entry : ℕ → DataRecord → Part

-- the parts of a record, where these shapes were used before it
abbrev pub parts_for : List Template → DataRecord → List Part
parts_for shapes r =
    if is_among r.template shapes then Entry (id_of r.template shapes) r ∷ []
    else Announcement (id_of r.template shapes) r.template ∷ Entry (id_of r.template shapes) r ∷ []

abbrev pub parts_at : List DataRecord → DataRecord → List Part
parts_at before r = parts_for (shapes_of before) r

unfoldable pub parts : List DataRecord → List Part
parts records = each_with_before parts_at records

abbrev pub record_in : Part → List DataRecord
record_in (Announcement id shape) = []
record_in (Entry id r) = r ∷ []

-- the records among parts
abbrev pub records_of_parts : List Part → List DataRecord
records_of_parts ps = flat_map record_in ps
