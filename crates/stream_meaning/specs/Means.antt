-- What messages mean that are the whole of a session.
use Rattle.std.specs.Prelude.{◌≡◌, ℕ, ◌+◌, ◌%◌, ◌^◌, List, [], ◌∷◌, ◌++◌, length, map, None, Ok}
use Rattle.ipfix_template.specs.DataRecord.{DataRecord}
use Rattle.ipfix_session.specs.Contents.{skips_of}
use Rattle.ipfix_session.specs.Meaning.{Meaning, meaning_of, with_domain, records_of}

-- these records in domain 0, under a Sequence Number that counts so many before them; no set and no template is skipped,
-- and there is no gap
abbrev pub plain_meaning : ℕ → ℕ → List DataRecord → Meaning
plain_meaning now handed records = record {
  header = record { export_time = now; sequence = handed % 2 ^ 32; domain = 0 };
  records = records;
  skips = skips_of 0 0 0;
  gap = None;
}

-- each message is read so, after older messages (newest first) of so many records; together they bring these
abbrev pub AreReadAs : ℕ → List (List ℕ) → List (List ℕ) → List DataRecord → Type 0
AreReadAs handed older [] records = records ≡ []
AreReadAs handed older (message ∷ messages) records =
    (now : ℕ) × (first others : List DataRecord) × (records ≡ first ++ others)
    × (meaning_of older message ≡ Ok (plain_meaning now handed first))
    × AreReadAs (handed + length first) (message ∷ older) messages others

-- messages that are all of a session bring exactly these records, in domain 0
pub record Means (messages : List (List ℕ)) (list : List DataRecord) : Type 0 where
  pub records : records_of messages ≡ Ok (map (with_domain 0) list)
  pub each : AreReadAs 0 [] messages list
