-- Shapes: the templates of a stream's records. Equal templates are one shape, and each shape has one ID (RFC 7011,
-- sections 3.4.1 and 8).
use Rattle.std.specs.Prelude.{ℕ, ◌+◌, Bool, not, List, [], ◌∷◌, ◌++◌, filter, if◌then◌else◌}
use Rattle.std.specs.List.{list_any, position_or_len}
use Rattle.sequences.specs.Before.{each_with_before}
use Rattle.ipfix_octets.specs.MessageFormat.{least_template_id}
use Rattle.ipfix_template.specs.declared.template.Template.{Template}
use Rattle.ipfix_template.specs.Equality.{same_template}
use Rattle.ipfix_template.specs.DataRecord.{DataRecord}

abbrev pub is_among : Template → List Template → Bool
is_among shape shapes = list_any (same_template shape) shapes

-- a shape at the end, where it is not among them
abbrev pub with_shape : List Template → Template → List Template
with_shape shapes shape = if is_among shape shapes then shapes else shapes ++ shape ∷ []

-- one of the records has the shape
abbrev pub is_used : Template → List DataRecord → Bool
is_used shape records = list_any (λ r. same_template shape r.template) records

-- a record's template, where no record before it has it
abbrev pub first_use : List DataRecord → DataRecord → List Template
first_use before r = if is_used r.template before then [] else r.template ∷ []

-- the distinct shapes of a list of records, in the order of first use
unfoldable pub shapes_of : List DataRecord → List Template
shapes_of records = each_with_before first_use records

-- these shapes, and then those of more records that are not among them
unfoldable pub shapes_after : List Template → List DataRecord → List Template
shapes_after shapes records = shapes ++ filter (λ shape. not (is_among shape shapes)) (shapes_of records)

-- the ID of a shape: the least one and its place among the shapes, or their number where it is not among them
abbrev pub id_of : Template → List Template → ℕ
id_of shape shapes = least_template_id + position_or_len (same_template shape) shapes
