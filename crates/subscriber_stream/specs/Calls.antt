-- What a subscriber gets.
use Rattle.std.specs.Prelude.{◌≡◌, ℕ, Bool, List, [], ◌∷◌, ◌++◌, Option, Some, None, if◌then◌else◌}
use Rattle.ipfix_template.specs.DataRecord.{DataRecord}
use Rattle.subscriber_stream.specs.Message.{built, place_after}
use Rattle.subscriber_stream.specs.Standing.{StreamStanding, StandsAt}

-- a pull: when, to what target, and all records that were given before it
pub record Pull : Type 0 where
  pub now : ℕ
  pub target : ℕ
  pub records : List DataRecord

-- what pulls give from place p on: each the message built there, and each moves the place past its parts
abbrev pub octets_from : ℕ → List Pull → List (Option (List ℕ))
octets_from p [] = []
octets_from p (pull ∷ pulls) = built pull.records p pull.now pull.target ∷ octets_from (place_after pull.records p pull.target) pulls

-- the octets that a subscriber gets
abbrev pub octets_got : List Pull → List (Option (List ℕ))
octets_got pulls = octets_from 0 pulls

-- ---- runs of calls

-- records that are given, or a pull
pub data Call : Type 0 where
  Given : List DataRecord → Call
  Pulled : ℕ → ℕ → Call

-- the pulls among calls, each with the records that were given before it
abbrev pub pulls_of : List DataRecord → List Call → List Pull
pulls_of records [] = []
pulls_of records (Given more ∷ calls) = pulls_of (records ++ more) calls
pulls_of records (Pulled now target ∷ calls) = record { now = now; target = target; records = records } ∷ pulls_of records calls

-- what push_reserved says of a stream
pub record TakesRecords (old : StreamStanding) (more : List DataRecord) (new : StreamStanding) : Type 0 where
  pub stands : (records : List DataRecord) (p : ℕ) → StandsAt old records p → StandsAt new (records ++ more) p

-- the octets as a message, if they are one
abbrev pub message_if : Bool → List ℕ → Option (List ℕ)
message_if is_there octets = if is_there then Some octets else None

-- what pull says of a stream where it answers Ok
pub record GivesNext (old : StreamStanding) (now target : ℕ) (answer : Option (List ℕ)) (new : StreamStanding) : Type 0 where
  pub answers : (records : List DataRecord) (p : ℕ) → StandsAt old records p → answer ≡ built records p now target
  pub stands : (records : List DataRecord) (p : ℕ) → StandsAt old records p → StandsAt new records (place_after records p target)

-- a stream that takes these calls one after another answers its pulls so
abbrev pub ServesCalls : StreamStanding → List Call → List (Option (List ℕ)) → Type 0
ServesCalls s [] answers = answers ≡ []
ServesCalls s (Given more ∷ calls) answers = (t : StreamStanding) × TakesRecords s more t × ServesCalls t calls answers
ServesCalls s (Pulled now target ∷ calls) [] = ⊥
ServesCalls s (Pulled now target ∷ calls) (answer ∷ answers) = (t : StreamStanding) × GivesNext s now target answer t × ServesCalls t calls answers
