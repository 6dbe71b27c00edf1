-- The template that each ID has, along the sets of a message.
use Rattle.std.proofs.Common.{◌≡◌, ℕ, ◌<◌, ◌≤◌, eqb, cond, List, [], ◌∷◌, ◌++◌, Option, Some, None}
use Rattle.ipfix_template.specs.declared.template.Template.{Template}
use Rattle.ipfix_template.specs.Template.{IsAcceptable, IsWritable, is_options, template_record}
use Rattle.ipfix_template.specs.DataRecord.{DataRecord, FitsOneMessage, IsSound}
use Rattle.subscriber_stream.specs.Parts.{Part, Announcement, Entry}
use Rattle.subscriber_stream.specs.Message.{Set, Announces, Brings}
use Rattle.stream_meaning.proofs.DataSets.{AreOf}

-- the template of each ID, where it has one
abbrev pub Table : Type 0
Table = ℕ → Option Template

abbrev pub empty : Table
empty q = None

abbrev pub defining : ℕ → Template → Table → Table
defining id shape table q = cond (eqb q id) (Some shape) (table q)

-- a template that is read under this ID as what is written for it
pub record IsAnnounceable (id : ℕ) (shape : Template) : Type 0 where
  pub low : 256 ≤ id
  pub high : id < 65536
  pub accepted : IsAcceptable shape
  pub writable : IsWritable 256 (is_options shape) shape
  pub fits : FitsOneMessage (template_record 256 (is_options shape) shape)

-- a record of the template that the ID has
pub record IsKnown (table : Table) (id : ℕ) (r : DataRecord) : Type 0 where
  pub low : 256 ≤ id
  pub high : id < 65536
  pub known : table id ≡ Some r.template
  pub sound : IsSound r

-- records of the template that the ID has
pub record AreBrought (table : Table) (id : ℕ) (rs : List DataRecord) : Type 0 where
  pub low : 256 ≤ id
  pub high : id < 65536
  pub template : Template
  pub known : table id ≡ Some template
  pub accepted : IsAcceptable template
  pub are : AreOf template rs

abbrev pub AreKnown : Table → List Part → Type 0
AreKnown table [] = Unit {0}
AreKnown table (Announcement id shape ∷ ps) = IsAnnounceable id shape × AreKnown (defining id shape table) ps
AreKnown table (Entry id r ∷ ps) = IsKnown table id r × AreKnown table ps

abbrev pub AreWritten : Table → List Set → Type 0
AreWritten table [] = Unit {0}
AreWritten table (Announces id shape ∷ sets) = IsAnnounceable id shape × AreWritten (defining id shape table) sets
AreWritten table (Brings id rs ∷ sets) = AreBrought table id rs × AreWritten table sets

abbrev pub after_parts : Table → List Part → Table
after_parts table [] = table
after_parts table (Announcement id shape ∷ ps) = after_parts (defining id shape table) ps
after_parts table (Entry id r ∷ ps) = after_parts table ps

abbrev pub after_sets : Table → List Set → Table
after_sets table [] = table
after_sets table (Announces id shape ∷ sets) = after_sets (defining id shape table) sets
after_sets table (Brings id rs ∷ sets) = after_sets table sets

abbrev brought : Set → List DataRecord
brought (Announces id shape) = []
brought (Brings id rs) = rs

-- the records of sets
abbrev pub records_among : List Set → List DataRecord
records_among [] = []
records_among (s ∷ sets) = brought s ++ records_among sets
