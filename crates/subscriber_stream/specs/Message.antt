-- The message of a run of parts (RFC 7011, sections 3.1, 3.3 and 3.4), and, by this project's own rule, the longest run that a
-- message takes. Domain 0 says that no Observation Domain holds for the whole message (section 3.1).
use Rattle.std.specs.Prelude.{ℕ, suc, zero, ◌+◌, ◌%◌, ◌^◌, Bool, ◌==◌, nat_le, max, List, [], ◌∷◌, ◌++◌, length, take, drop, Option, Some, None, if◌then◌else◌}
use Rattle.std.specs.List.{flat_map}
use Rattle.sequences.specs.Octets.{be_octets}
use Rattle.ipfix_octets.specs.MessageFormat.{ipfix_version, header_octets, set_header_octets, template_set_id, options_template_set_id}
use Rattle.ipfix_template.specs.declared.template.Template.{Template}
use Rattle.ipfix_template.specs.DataRecord.{DataRecord}
use Rattle.ipfix_template.specs.Template.{is_options, template_record}
use Rattle.ipfix_template.specs.Values.{record_text}
use Rattle.subscriber_stream.specs.Parts.{Part, Announcement, Entry, parts, records_of_parts}

-- a set: one announcement, or the records of one ID that stand one after another
pub data Set : Type 0 where
  Announces : ℕ → Template → Set
  Brings : ℕ → List DataRecord → Set

-- a record before sets: in front of a Data Set of its ID, or in a Data Set of its own
abbrev pub with_record : ℕ → DataRecord → List Set → List Set
with_record id r [] = Brings id (r ∷ []) ∷ []
with_record id r (Announces other shape ∷ sets) = Brings id (r ∷ []) ∷ Announces other shape ∷ sets
with_record id r (Brings other rs ∷ sets) = if id == other then Brings id (r ∷ rs) ∷ sets else Brings id (r ∷ []) ∷ Brings other rs ∷ sets

-- each announcement is a set of its own, and consecutive records of one ID share a set
abbrev pub sets_of : List Part → List Set
sets_of [] = []
sets_of (Announcement id shape ∷ ps) = Announces id shape ∷ sets_of ps
sets_of (Entry id r ∷ ps) = with_record id r (sets_of ps)

-- the Set ID of the set that announces a template (RFC 7011, section 3.3.2)
abbrev pub template_set : Template → ℕ
template_set shape = if is_options shape then options_template_set_id else template_set_id

abbrev pub set_id : Set → ℕ
set_id (Announces id shape) = template_set shape
set_id (Brings id rs) = id

abbrev pub set_content : Set → List ℕ
set_content (Announces id shape) = template_record id (is_options shape) shape
set_content (Brings id rs) = flat_map (λ r. record_text r.template.fields r.values) rs

-- a set's header: its ID, and its length with the header (RFC 7011, section 3.3.2)
unfoldable pub set_head : ℕ → ℕ → List ℕ
set_head id octets = be_octets 2 id ++ be_octets 2 (set_header_octets + octets)

-- the header and the content, without padding
abbrev pub set_text : Set → List ℕ
set_text s = set_head (set_id s) (length (set_content s)) ++ set_content s

unfoldable pub body : List Part → List ℕ
body ps = flat_map set_text (sets_of ps)

-- the version of IPFIX, length, Export Time, Sequence Number, Observation Domain 0, and the sets
unfoldable pub message : ℕ → ℕ → List Part → List ℕ
message now sequence ps = be_octets 2 ipfix_version ++ be_octets 2 (header_octets + length (body ps)) ++ be_octets 4 now ++ be_octets 4 (sequence % 2 ^ 32) ++ be_octets 4 0 ++ body ps

-- the greatest number up to n that passes, or 0
abbrev pub last_passing : (ℕ → Bool) → ℕ → ℕ
last_passing p zero = 0
last_passing p (suc n) = if p (suc n) then suc n else last_passing p n

-- whether the message of these parts is at most target octets long
abbrev pub is_within : ℕ → List Part → Bool
is_within target ps = nat_le (length (message 0 0 ps)) target

-- how many parts a message takes: the longest run from the front that is at most target octets long, or else one part
unfoldable pub run_length : ℕ → List Part → ℕ
run_length target ps = max 1 (last_passing (λ n. is_within target (take n ps)) (length ps))

-- how many parts the message from place p on takes
abbrev pub parts_taken : List DataRecord → ℕ → ℕ → ℕ
parts_taken records p target = run_length target (drop p (parts records))

-- the message of the parts that wait, where handed records stood before them; none where none waits
unfoldable pub next_message : ℕ → ℕ → ℕ → List Part → Option (List ℕ)
next_message now target handed [] = None
next_message now target handed (part ∷ ps) = Some (message now handed (take (run_length target (part ∷ ps)) (part ∷ ps)))

-- the message built from place p on: its Sequence Number is the number of records among the parts before
abbrev pub built : List DataRecord → ℕ → ℕ → ℕ → Option (List ℕ)
built records p now target = next_message now target (length (records_of_parts (take p (parts records)))) (drop p (parts records))

-- the place after that message, or the end
abbrev pub place_after : List DataRecord → ℕ → ℕ → ℕ
place_after records p target = p + length (take (parts_taken records p target) (drop p (parts records)))
