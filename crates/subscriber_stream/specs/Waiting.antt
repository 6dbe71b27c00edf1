-- The queue: announcements, and runs of records. Part by part a run is its records.
use Rattle.std.specs.Prelude.{ℕ, ◌+◌, ◌-◌, ◌<◌, List, [], ◌∷◌, ◌++◌, length, map, take, Option, Some, None, if◌then◌else◌}
use Rattle.std.specs.List.{flat_map, concat}
use Rattle.ipfix_template.specs.declared.template.Template.{Template}
use Rattle.subscriber_stream.specs.declared.waiting.Waiting.{Waiting}
use Rattle.subscriber_stream.specs.declared.waiting.Waiting.TheVariants.{Announce, Bring}
use Rattle.subscriber_stream.specs.Message.{set_head}
use Rattle.subscriber_stream.specs.Items.{Item, Announced, Brought, joins, run, piece}

-- what waits there, part by part
abbrev pub waiting_items : Waiting → List Item
waiting_items (Announce id octets) = Announced id octets ∷ []
waiting_items (Bring id texts) = map (Brought id) texts

abbrev pub items_in : List Waiting → List Item
items_in queue = flat_map waiting_items queue

-- a run brings a record
abbrev pub IsFilledRun : Waiting → Type 0
IsFilledRun w = 0 < length (waiting_items w)

abbrev pub AreFilled : List Waiting → Type 0
AreFilled [] = Unit {0}
AreFilled (w ∷ queue) = IsFilledRun w × AreFilled queue

-- the Data Set that is the last after it
abbrev pub set_after : Waiting → Option ℕ
set_after (Announce id octets) = None
set_after (Bring id texts) = Some id

-- what is put into the queue for a run
abbrev pub new_waiting : ℕ → Option ℕ → List (List ℕ) → List Waiting
new_waiting id None texts = Bring id texts ∷ []
new_waiting id (Some announced) texts = Announce id announced ∷ Bring id texts ∷ []

-- a run of which these texts are left
abbrev pub rest_of : ℕ → List (List ℕ) → List Waiting
rest_of id [] = []
rest_of id (text ∷ texts) = Bring id (text ∷ texts) ∷ []

-- what is written for those of its parts that are among the first so many, where this queue follows it
abbrev pub span : List Template → Option ℕ → ℕ → Waiting → List Waiting → List ℕ
span shapes last left (Announce id octets) queue = piece shapes last (Announced id octets) []
span shapes last left (Bring id texts) queue =
    (if joins last id then [] else set_head id (length (concat (take left texts)) + run id (take (left - length texts) (items_in queue)))) ++ concat (take left texts)
