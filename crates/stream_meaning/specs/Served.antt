-- What a stream is given, and the messages that it gives.
use Rattle.std.specs.Prelude.{◌≤◌, ◌<◌, ◌^◌, ℕ, List, [], ◌∷◌, length, map, Option, Some, None}
use Rattle.std.specs.List.{AllByRecursion, flat_map}
use Rattle.ipfix_octets.specs.MessageFormat.{least_template_id}
use Rattle.ipfix_template.specs.Template.{IsWritable, is_options}
use Rattle.ipfix_template.specs.DataRecord.{DataRecord, IsSound}
use Rattle.subscriber_stream.specs.declared.limits.TheConstants.{MOST_SHAPES}
use Rattle.subscriber_stream.specs.Shapes.{shapes_of}
use Rattle.subscriber_stream.specs.Message.{place_after}
use Rattle.subscriber_stream.specs.Calls.{Pull, Call, Given, Pulled, pulls_of, octets_got}

-- a sound record, the numbers of whose template fit the octets that they are written in
pub record IsStreamable (r : DataRecord) : Type 0 where
  pub sound : IsSound r
  pub writable : IsWritable least_template_id (is_options r.template) r.template

-- records that one stream can announce: there are IDs from 256 to 65,535
pub record AreStreamable (records : List DataRecord) : Type 0 where
  pub each : AllByRecursion IsStreamable records
  pub shapes : length (shapes_of records) ≤ MOST_SHAPES

-- Export Time and target are numbers of 32 and of 16 bits
abbrev pub IsInRange : Call → Type 0
IsInRange (Given more) = Unit {0}
IsInRange (Pulled now target) = (now < 2 ^ 32) × (target < 2 ^ 16)

abbrev pub AreInRange : List Call → Type 0
AreInRange calls = AllByRecursion IsInRange calls

abbrev pub given_by : Call → List DataRecord
given_by (Given more) = more
given_by (Pulled now target) = []

-- all records that calls give
abbrev pub records_given : List Call → List DataRecord
records_given calls = flat_map given_by calls

abbrev pub message_in : Option (List ℕ) → List (List ℕ)
message_in None = []
message_in (Some message) = message ∷ []

-- the messages among what pulls answer
abbrev pub messages_in : List (Option (List ℕ)) → List (List ℕ)
messages_in answers = flat_map message_in answers

-- a pull, with all records that were given before it
abbrev pub pull_at : List Call → Call → List Pull
pull_at before (Given more) = []
pull_at before (Pulled now target) = record { now = now; target = target; records = records_given before } ∷ []

-- the messages that calls get from a new stream
abbrev pub messages_got : List Call → List (List ℕ)
messages_got calls = messages_in (octets_got (pulls_of [] calls))

-- the place that pulls reach from place p on
abbrev pub place_from : ℕ → List Pull → ℕ
place_from p [] = p
place_from p (pull ∷ pulls) = place_from (place_after pull.records p pull.target) pulls

-- the place that the calls of a new stream reach
abbrev pub place_reached : List Call → ℕ
place_reached calls = place_from 0 (pulls_of [] calls)

-- pulls, each with its Export Time and target
abbrev pub pulls : List (ℕ × ℕ) → List Call
pulls turns = map (λ turn. Pulled turn.0 turn.1) turns
