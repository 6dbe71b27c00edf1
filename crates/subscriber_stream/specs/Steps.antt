-- What one record that is given, and one part that is handed out, make of a stream's standing.
use Rattle.std.specs.Prelude.{◌≡◌, ◌≤◌, ◌<◌, ℕ, zero, suc, ◌+◌, ◌-◌, ◌*◌, ◌^◌, List, [], ◌∷◌, ◌++◌, length}
use Rattle.ipfix_template.specs.DataRecord.{DataRecord}
use Rattle.subscriber_stream.specs.declared.limits.StreamLimits.{StreamLimits}
use Rattle.subscriber_stream.specs.declared.limits.TheConstants.{MOST_SHAPES}
use Rattle.subscriber_stream.specs.Shapes.{with_shape}
use Rattle.subscriber_stream.specs.Parts.{Part, Announcement, Entry, parts_for}
use Rattle.subscriber_stream.specs.Table.{Table}
use Rattle.subscriber_stream.specs.declared.waiting.Waiting.{Waiting}
use Rattle.subscriber_stream.specs.Items.{AreItemsKept, AreFollowed, announcements, entries}
use Rattle.subscriber_stream.specs.Waiting.{items_in, AreFilled}
use Rattle.subscriber_stream.specs.Standing.{StreamStanding, KeptStream}

-- one record more
abbrev pub with_record : StreamStanding → DataRecord → StreamStanding
with_record s r = record { shapes = with_shape s.shapes r.template; handed = s.handed; announced = s.announced; waiting = s.waiting ++ parts_for s.shapes r }

-- the same, out of the room that is reserved
unfoldable pub given_one : KeptStream → DataRecord → KeptStream
given_one k r = record { standing = with_record k.standing r; limits = k.limits; spare = k.spare - 1 }

abbrev pub after_given : KeptStream → List DataRecord → KeptStream
after_given k [] = k
after_given k (r ∷ rs) = after_given (given_one k r) rs

-- the first part handed out
abbrev pub without_first : StreamStanding → List Part → StreamStanding
without_first s [] = s
without_first s (Announcement id shape ∷ ps) = record { shapes = s.shapes; handed = s.handed; announced = s.announced + 1; waiting = ps }
without_first s (Entry id r ∷ ps) = record { shapes = s.shapes; handed = s.handed + 1; announced = s.announced; waiting = ps }

unfoldable pub handed_one : KeptStream → KeptStream
handed_one k = record { standing = without_first k.standing k.standing.waiting; limits = k.limits; spare = k.spare }

-- so many parts handed out
abbrev pub handed_parts : ℕ → KeptStream → KeptStream
handed_parts zero k = k
handed_parts (suc n) k = handed_parts n (handed_one k)

-- how many records wait, how many were handed out, and how many announcements
pub record StreamCounts : Type 0 where
  pub waiting : ℕ
  pub handed : ℕ
  pub announced : ℕ

-- what a stream keeps of itself, by its parts: the table, the queue and its capacity, the limits, the counts and the reserved room
pub record IsConsistent (table : Table) (queue : List Waiting) (capacity : ℕ) (limits : StreamLimits) (counts : StreamCounts) (spare : ℕ) : Type 0 where
  pub filled : AreFilled queue
  pub kept : AreItemsKept table.shapes (items_in queue)
  pub followed : AreFollowed (items_in queue)
  pub counted : counts.waiting ≡ entries (items_in queue)
  pub announced_before : counts.announced + announcements (items_in queue) ≡ length table.shapes
  pub few_shapes : length table.shapes ≤ limits.shapes
  pub few_ids : limits.shapes ≤ MOST_SHAPES
  pub few_waiting : counts.waiting ≤ limits.queue
  pub below : counts.handed + counts.waiting < 2 ^ 64
  pub room : length queue + 2 * spare ≤ capacity
  pub table_room : spare ≤ table.spare
