-- What waits in a stream's queue, part by part, and what it adds to a message. A part names its template by the ID alone, and a
-- record waits as its octets.
use Rattle.std.specs.Prelude.{◌≡◌, ◌≤◌, ◌<◌, ℕ, suc, ◌+◌, ◌-◌, Bool, false, ◌==◌, nat_le, List, [], ◌∷◌, ◌++◌, length, map, slice_index_or, Option, Some, None, if◌then◌else◌}
use Rattle.ipfix_octets.specs.MessageFormat.{longest_message, header_octets, set_header_octets, least_template_id}
use Rattle.ipfix_template.specs.declared.template.Template.{Template}
use Rattle.ipfix_template.specs.Template.{IsAcceptable, is_options, template_record}
use Rattle.ipfix_template.specs.declared.data_record.TheConstants.{RECORD_ROOM}
use Rattle.ipfix_template.specs.DataRecord.{kept_record, IsKept as IsKeptOf}
use Rattle.subscriber_stream.specs.Parts.{Part, Announcement, Entry}
use Rattle.subscriber_stream.specs.Message.{template_set, set_head}

-- the most octets of sets in one message
abbrev pub longest_body : ℕ
longest_body = longest_message - header_octets

-- an announcement under an ID, whose template record has so many octets, or a record under an ID, as its octets
pub data Item : Type 0 where
  Announced : ℕ → ℕ → Item
  Brought : ℕ → List ℕ → Item

-- the template of an ID
abbrev pub shape_at : List Template → ℕ → Template
shape_at shapes id = slice_index_or shapes (id - least_template_id) (record { fields = []; scope = 0 })

abbrev pub part_of : List Template → Item → Part
part_of shapes (Announced id octets) = Announcement id (shape_at shapes id)
part_of shapes (Brought id octets) = Entry id (kept_record (shape_at shapes id) octets)

abbrev pub stream_parts : List Template → List Item → List Part
stream_parts shapes ws = map (part_of shapes) ws

-- the ID has a template, and the octets are those of the template's record
pub record IsAnnouncement (shapes : List Template) (id octets : ℕ) : Type 0 where
  pub low : least_template_id ≤ id
  pub known : id < least_template_id + length shapes
  pub accepted : IsAcceptable (shape_at shapes id)
  pub counted : octets ≡ length (template_record least_template_id (is_options (shape_at shapes id)) (shape_at shapes id))
  pub few : octets ≤ RECORD_ROOM

-- the ID has a template, and the octets are those of a record of it
pub record IsEntry (shapes : List Template) (id : ℕ) (octets : List ℕ) : Type 0 where
  pub low : least_template_id ≤ id
  pub known : id < least_template_id + length shapes
  pub kept : IsKeptOf (shape_at shapes id) octets
  pub few : length octets ≤ RECORD_ROOM

abbrev pub IsItemKept : List Template → Item → Type 0
IsItemKept shapes (Announced id octets) = IsAnnouncement shapes id octets
IsItemKept shapes (Brought id octets) = IsEntry shapes id octets

abbrev pub AreItemsKept : List Template → List Item → Type 0
AreItemsKept shapes [] = Unit {0}
AreItemsKept shapes (w ∷ ws) = IsItemKept shapes w × AreItemsKept shapes ws

-- how many announcements and how many records wait
abbrev pub announcements : List Item → ℕ
announcements [] = 0
announcements (Announced id octets ∷ ws) = suc (announcements ws)
announcements (Brought id octets ∷ ws) = announcements ws

abbrev pub entries : List Item → ℕ
entries [] = 0
entries (Announced id octets ∷ ws) = entries ws
entries (Brought id octets ∷ ws) = suc (entries ws)

-- a record comes after each announcement
abbrev pub AreFollowed : List Item → Type 0
AreFollowed [] = Unit {0}
AreFollowed (Announced id octets ∷ ws) = (0 < entries ws) × AreFollowed ws
AreFollowed (Brought id octets ∷ ws) = AreFollowed ws

-- ---- what each adds to a message of which a Data Set of this ID, or none, is the last

abbrev pub joins : Option ℕ → ℕ → Bool
joins None id = false
joins (Some last) id = last == id

-- the Data Set that is the last after it
abbrev pub data_set : Item → Option ℕ
data_set (Announced id octets) = None
data_set (Brought id octets) = Some id

abbrev pub cost : Option ℕ → Item → ℕ
cost last (Announced id octets) = set_header_octets + octets
cost last (Brought id octets) = if joins last id then length octets else set_header_octets + length octets

abbrev pub total : Option ℕ → List Item → ℕ
total last [] = 0
total last (w ∷ ws) = cost last w + total (data_set w) ws

-- how many from the front are at most target octets long, together with those before them
abbrev pub fits : ℕ → Option ℕ → ℕ → List Item → ℕ
fits target last octets [] = 0
fits target last octets (w ∷ ws) = if nat_le (octets + cost last w) target then suc (fits target (data_set w) (octets + cost last w) ws) else 0

-- the octets of the records of this ID at the front
abbrev pub run : ℕ → List Item → ℕ
run id [] = 0
run id (Announced other octets ∷ ws) = 0
run id (Brought other octets ∷ ws) = if id == other then length octets + run id ws else 0

-- the Data Set that is the last after all of them
abbrev pub last_after : Option ℕ → List Item → Option ℕ
last_after last [] = last
last_after last (w ∷ ws) = last_after (data_set w) ws

-- what is written for one, where these follow it in the message
abbrev pub piece : List Template → Option ℕ → Item → List Item → List ℕ
piece shapes last (Announced id octets) ws = set_head (template_set (shape_at shapes id)) octets ++ template_record id (is_options (shape_at shapes id)) (shape_at shapes id)
piece shapes last (Brought id octets) ws = (if joins last id then [] else set_head id (length octets + run id ws)) ++ octets

abbrev pub set_pieces : List Template → Option ℕ → List Item → List ℕ
set_pieces shapes last [] = []
set_pieces shapes last (w ∷ ws) = piece shapes last w ws ++ set_pieces shapes (data_set w) ws
