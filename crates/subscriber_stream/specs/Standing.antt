-- Where a stream stands in the parts of a list of records.
use Rattle.std.specs.Prelude.{◌≡◌, ℕ, ◌+◌, ◌≤◌, List, [], ◌++◌, length, take, drop}
use Rattle.ipfix_template.specs.declared.template.Template.{Template}
use Rattle.ipfix_template.specs.DataRecord.{DataRecord}
use Rattle.subscriber_stream.specs.declared.limits.StreamLimits.{StreamLimits}
use Rattle.subscriber_stream.specs.Shapes.{shapes_after, shapes_of}
use Rattle.subscriber_stream.specs.Parts.{Part, parts, records_of_parts}

-- what a stream is to its callers: the shapes that it has announced or is to announce, how many records and how many
-- announcements it handed out, and the parts that wait
pub record StreamStanding : Type 0 where
  pub shapes : List Template
  pub handed : ℕ
  pub announced : ℕ
  pub waiting : List Part

-- a stream that was given no record
abbrev pub at_start : StreamStanding
at_start = record { shapes = []; handed = 0; announced = 0; waiting = [] }

-- the standing, the limits, and how many more records have room reserved
pub record KeptStream : Type 0 where
  pub standing : StreamStanding
  pub limits : StreamLimits
  pub spare : ℕ

-- it stands at place p of the parts of the list
pub record StandsAt (s : StreamStanding) (records : List DataRecord) (p : ℕ) : Type 0 where
  pub within : p ≤ length (parts records)
  pub place : s.handed + s.announced ≡ p
  pub shapes : s.shapes ≡ shapes_of records
  pub handed : s.handed ≡ length (records_of_parts (take p (parts records)))
  pub waiting : s.waiting ≡ drop p (parts records)

-- how many records wait
abbrev pub queue_size : StreamStanding → ℕ
queue_size s = length (records_of_parts s.waiting)

-- the limits leave room for these records: in the queue, and among the shapes
pub record HasStreamRoom (k : KeptStream) (more : List DataRecord) : Type 0 where
  pub queue : queue_size k.standing + length more ≤ k.limits.queue
  pub shapes : length (shapes_after k.standing.shapes more) ≤ k.limits.shapes

-- the same, said of the list that was given before, of which the parts from place p on wait
pub record FitsLimits (limits : StreamLimits) (records : List DataRecord) (p : ℕ) (more : List DataRecord) : Type 0 where
  pub queue : length (records_of_parts (drop p (parts records))) + length more ≤ limits.queue
  pub shapes : length (shapes_of (records ++ more)) ≤ limits.shapes
