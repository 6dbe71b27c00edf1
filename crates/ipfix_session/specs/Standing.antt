-- The messages that a session stands for.
use Rattle.std.specs.Prelude.{◌≡◌, ℕ, List, [], Option, unwrap_or}
use Rattle.ipfix_template.specs.declared.template.Template.{Template}
use Rattle.ipfix_session.specs.InForce.{template_in_force}
use Rattle.ipfix_session.specs.Meaning.{items_of_domain, expected_number}
use Rattle.ipfix_session.specs.Keeping.{at_key}
use Rattle.ipfix_session.specs.Places.{Places}

-- what is kept of a domain: the templates in force, and the number expected
pub record HeldDomain : Type 0 where
  pub templates : List (ℕ × Template)
  pub expected : Option ℕ

-- what is kept of all domains: the templates of each that has some, and the number of each of which it is known
pub record SessionStanding : Type 0 where
  pub templates : List (ℕ × List (ℕ × Template))
  pub expected : List (ℕ × ℕ)

-- the room that is made: of each domain the places for templates, where the tables are the session's own, since shared ones
-- are not changed; and the domains that have a place for their number
pub record Room : Type 0 where
  pub own : Option (List (ℕ × Places))
  pub numbers : List ℕ

-- a session as contracts see it: what it keeps of each domain, and the room that is made
pub record KeptSession : Type 0 where
  pub standing : SessionStanding
  pub room : Room

-- the templates of a domain
abbrev pub templates_of : ℕ → List (ℕ × List (ℕ × Template)) → List (ℕ × Template)
templates_of domain known = unwrap_or (at_key domain known) []

-- what is kept of a domain
abbrev pub kept_of : ℕ → SessionStanding → HeldDomain
kept_of domain standing = record { templates = templates_of domain standing.templates; expected = at_key domain standing.expected }

-- of each domain these templates are in force, and this number is expected, after messages that stand newest first
pub record SessionStands (standing : SessionStanding) (messages : List (List ℕ)) : Type 0 where
  pub templates : (domain id : ℕ) → at_key id (kept_of domain standing).templates ≡ template_in_force id (items_of_domain domain messages)
  pub expected : (domain : ℕ) → (kept_of domain standing).expected ≡ expected_number domain messages

-- the messages for which a session stands, whatever room is made in it
abbrev pub StandsFor : KeptSession → List (List ℕ) → Type 0
StandsFor session messages = SessionStands session.standing messages

-- these templates are in force after the messages, which stand newest first
pub record Knows (known : List (ℕ × List (ℕ × Template))) (messages : List (List ℕ)) : Type 0 where
  pub templates : (domain id : ℕ) → at_key id (templates_of domain known) ≡ template_in_force id (items_of_domain domain messages)
