-- The content of a Data Set is read back into its records.
use Rattle.std.proofs.Common.{◌≡◌, ℕ, List, [], ◌∷◌, map, refl, subst}
use Rattle.std.specs.List.{flat_map, AllByRecursion}
use Rattle.ipfix_template.specs.declared.template.Template.{Template}
use Rattle.ipfix_template.specs.Template.{IsAcceptable}
use Rattle.ipfix_template.specs.Values.{Splits, records_in}
use Rattle.ipfix_template.specs.DataRecord.{DataRecord, IsSound}
use Rattle.ipfix_template.proofs.WrittenLaws.{record_text-splits}
use Rattle.ipfix_session.specs.DataSetContent.{AreRecords}
use Rattle.ipfix_session.proofs.Soundness.{shortest_some}
use Rattle.ipfix_session.proofs.RecordLaws.{only}
use Rattle.subscriber_stream.proofs.Bodies.{spelled}
use Rattle.ipfix_session.proofs.SetSteps.{read_rows}

-- a record of this template
pub record IsOf (t : Template) (r : DataRecord) : Type 0 where
  pub template : r.template ≡ t
  pub sound : IsSound r

abbrev pub AreOf : Template → List DataRecord → Type 0
AreOf t rs = AllByRecursion (IsOf t) rs

abbrev pub values_of : DataRecord → List (List ℕ)
values_of r = r.values

-- what is written for records of a template is those records, one after another, and no padding
written : (t : Template) (rs : List DataRecord) → IsAcceptable t → AreOf t rs → AreRecords t (flat_map spelled rs) (map values_of rs)
written t [] accepted are = shortest_some t accepted
written t (r ∷ rs) accepted are =
    let splits = record_text-splits r.template.fields r.values are.0.sound.fit in
    let S : Template → Type 0 = λ u. Splits u.fields (spelled r) r.values in
    (spelled r, flat_map spelled rs, refl, subst S are.0.template splits, written t rs accepted are.1)

-- so they are read as their values
pub content_read : (t : Template) (rs : List DataRecord) → IsAcceptable t → AreOf t rs → records_in t (flat_map spelled rs) ≡ read_rows (map values_of rs)
content_read t rs accepted are = only t accepted (flat_map spelled rs) (map values_of rs) (written t rs accepted are)
