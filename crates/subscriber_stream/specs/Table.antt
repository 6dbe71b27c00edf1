-- What the table of shapes is to the stream that keeps it.
use Rattle.std.specs.Prelude.{ℕ, List}
use Rattle.ipfix_template.specs.declared.template.Template.{Template}

-- the shapes, and how many more have room
pub record Table : Type 0 where
  pub shapes : List Template
  pub spare : ℕ
