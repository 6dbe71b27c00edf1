-- Records whose addresses lie near those of another, so that they have its keys.
use Rattle.std.specs.Prelude.{◌≡◌, ℕ, List, [], ◌∷◌, Option, IsSome}
use Rattle.sequences.specs.Octets.{be_value}
use Rattle.ipfix_template.specs.DataRecord.{DataRecord}
use Rattle.policy_judge.specs.declared.occurrences.Side.{Side}
use Rattle.policy_judge.specs.declared.occurrences.Side.TheVariants.{Source, Destination}
use Rattle.policy_judge.specs.Sides.{is_of}
use Rattle.policy_judge.specs.Occurrences.{values_of}
use Rattle.rule_table.specs.declared.place.Place.TheVariants.{Narrow}
use Rattle.rule_table.specs.declared.span.Span.{Span}
use Rattle.rule_table.specs.declared.near.Near.{Near}
use Rattle.rule_table.specs.Classes.{class_key}
use Rattle.rule_table.specs.Spans.{IsSpan, IsAmong}
use Rattle.rule_table.specs.Places.{ArePlaces, HasPlace, value_at}

-- the key of a record's addresses of a side
abbrev pub side_key : List ℕ → Side → DataRecord → Option ℕ
side_key cuts side r = class_key cuts (values_of (is_of side) r)

-- two records have the same key on each side
pub record HaveSameKeys (cuts : List ℕ) (one other : DataRecord) : Type 0 where
  pub sources : side_key cuts Source one ≡ side_key cuts Source other
  pub destinations : side_key cuts Destination one ≡ side_key cuts Destination other

-- a record has a key on each side
pub record HasKeys (cuts : List ℕ) (r : DataRecord) : Type 0 where
  pub sources : IsSome (side_key cuts Source r)
  pub destinations : IsSome (side_key cuts Destination r)

-- the address of IPv4 that a record shows from this octet on is among these
abbrev pub ShowsAmong : DataRecord → ℕ → Span → Type 0
ShowsAmong r from span = IsAmong (be_value (value_at r (Narrow from))) span

-- each record of this one's fields shows one address of the side, from this octet on; this record's is among addresses that have one class
pub record IsNearOn (cuts : List ℕ) (side : Side) (r : DataRecord) (from : ℕ) (span : Span) : Type 0 where
  pub lone : ArePlaces side r.template.fields (Narrow from ∷ [])
  pub one_class : IsSpan cuts span
  pub among : ShowsAmong r from span

-- on both sides
pub record IsNear (cuts : List ℕ) (r : DataRecord) (near : Near) : Type 0 where
  pub of_sources : IsNearOn cuts Source r near.source near.sources
  pub of_destinations : IsNearOn cuts Destination r near.destination near.destinations

-- a record has an address of IPv4 at both places
pub record HasBoth (r : DataRecord) (near : Near) : Type 0 where
  pub source : HasPlace r (Narrow near.source)
  pub destination : HasPlace r (Narrow near.destination)

-- both of them are near
pub record ShowsBoth (r : DataRecord) (near : Near) : Type 0 where
  pub source : ShowsAmong r near.source near.sources
  pub destination : ShowsAmong r near.destination near.destinations
