-- The sets of parts in plain words. A Data Set brings one or more records of one ID (RFC 7011, sections 2 and 3.4.3); that an
-- announcement is a set of its own, and that a Data Set is as long as it may be, is this project's own rule.
use Rattle.std.specs.Prelude.{◌≡◌, ◌≢◌, ℕ, List, [], ◌∷◌, ◌++◌, map}
use Rattle.std.specs.List.{AllByRecursion, flat_map}
use Rattle.ipfix_template.specs.DataRecord.{DataRecord}
use Rattle.subscriber_stream.specs.Parts.{Part, Announcement, Entry}
use Rattle.subscriber_stream.specs.Message.{Set, Announces, Brings}

-- the parts that a set holds
abbrev pub parts_in : Set → List Part
parts_in (Announces id shape) = Announcement id shape ∷ []
parts_in (Brings id rs) = map (Entry id) rs

-- a Data Set brings a record
abbrev pub IsFilledSet : Set → Type 0
IsFilledSet (Announces id shape) = Unit {0}
IsFilledSet (Brings id rs) = rs ≢ []

-- no Data Set stands right before another of its ID
abbrev pub AreApart : List Set → Type 0
AreApart sets = (front more : List Set) (id : ℕ) (rs others : List DataRecord) → sets ≢ front ++ Brings id rs ∷ Brings id others ∷ more

-- the sets hold these parts in their order, each Data Set brings a record, and none could be longer
pub record AreLongestSets (ps : List Part) (sets : List Set) : Type 0 where
  pub joined : flat_map parts_in sets ≡ ps
  pub filled : AllByRecursion IsFilledSet sets
  pub apart : AreApart sets
