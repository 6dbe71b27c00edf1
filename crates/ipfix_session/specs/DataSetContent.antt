-- The content of a Data Set in the standard's words (RFC 7011, sections 3.3.1 and 3.4.3).
use Rattle.std.specs.Prelude.{◌≡◌, ◌<◌, ℕ, List, [], ◌∷◌, ◌++◌, length}
use Rattle.ipfix_template.specs.declared.template.Template.{Template}
use Rattle.ipfix_template.specs.Template.{shortest_record}
use Rattle.ipfix_template.specs.Values.{Splits}

-- the records of a Data Set's content, one after another, and padding, which is shorter than any record
abbrev pub AreRecords : Template → List ℕ → List (List (List ℕ)) → Type 0
AreRecords t octets [] = length octets < shortest_record t
AreRecords t octets (row ∷ rows) = (text rest : List ℕ) × (octets ≡ text ++ rest) × Splits t.fields text row × AreRecords t rest rows
