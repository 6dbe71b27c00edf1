-- Messages that are built one after another.
use Rattle.std.specs.Prelude.{◌≡◌, ℕ, List, [], ◌∷◌, Some}
use Rattle.ipfix_template.specs.DataRecord.{DataRecord}
use Rattle.subscriber_stream.specs.Message.{built, place_after}

-- pulls from place p on give these messages, one after another, and end at place q
abbrev pub HandsOutAll : List DataRecord → ℕ → ℕ → ℕ → List (List ℕ) → ℕ → Type 0
HandsOutAll records now target p [] q = p ≡ q
HandsOutAll records now target p (message ∷ messages) q = (built records p now target ≡ Some message) × HandsOutAll records now target (place_after records p target) messages q
