-- What was read of a message, before it is kept.
use Rattle.std.specs.Prelude.{◌≡◌, ℕ, List, ◌∷◌, true, Option, Ok}
use Rattle.ipfix_session.specs.InForce.{template_in_force}
use Rattle.ipfix_session.specs.Meaning.{Meaning, domain_of, items_of_domain, expected_number, meaning_of}
use Rattle.ipfix_session.specs.Places.{is_among}
use Rattle.ipfix_session.specs.Change.{Change, changed_template, HasTables}
use Rattle.ipfix_session.specs.Standing.{KeptSession}

-- what the message means, what it changes of its domain's templates, and the number that the domain's next message is to have
pub record Ahead : Type 0 where
  pub meaning : Meaning
  pub change : Change
  pub next : Option ℕ

-- this was read of the message, after older ones of its session
pub record IsReadingOf (older : List (List ℕ)) (message : List ℕ) (reading : Ahead) : Type 0 where
  pub means : meaning_of older message ≡ Ok reading.meaning
  pub templates : (id : ℕ) → changed_template reading.change id (template_in_force id (items_of_domain (domain_of message) older)) ≡ template_in_force id (items_of_domain (domain_of message) (message ∷ older))
  pub next : reading.next ≡ expected_number (domain_of message) (message ∷ older)

-- the session has room for what the message changes: a place for the number of its domain, and for the templates that it defines
pub record HasRoomFor (session : KeptSession) (reading : Ahead) : Type 0 where
  pub number : is_among reading.meaning.header.domain session.room.numbers ≡ true
  pub templates : HasTables session.room.own reading.meaning.header.domain reading.change
