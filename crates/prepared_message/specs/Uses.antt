-- The templates that a message's Data Sets use (RFC 7011, section 3.4.3).
use Rattle.std.specs.Prelude.{◌≡◌, ℕ, Bool, true, false, List, [], ◌∷◌, Option, Some, None, IfOk, ◌==◌, if◌then◌else◌}
use Rattle.std.specs.List.{AllByRecursion}
use Rattle.ipfix_template.specs.declared.template.Template.{Template}
use Rattle.ipfix_message.specs.declared.item.Item.{Item}
use Rattle.ipfix_message.specs.declared.item.Item.TheVariants.{Define, Withdraw, WithdrawAll, Refused, DataSet, Skipped}
use Rattle.ipfix_message.specs.Reading.{items_of}
use Rattle.ipfix_session.specs.Keeping.{at_key}
use Rattle.ipfix_session.specs.Meaning.{domain_of}
use Rattle.ipfix_session.specs.Standing.{templates_of}
use Rattle.ipfix_session.specs.Unchanging.{AgreeOn, in_force_after}

-- the template of an ID in a domain, by the templates that are known of all domains
abbrev pub known_in : ℕ → List (ℕ × List (ℕ × Template)) → ℕ → Option Template
known_in domain known id = at_key id (templates_of domain known)

-- Two tables of templates agree on a message where they have the same template, or none, for each Set ID of 256 or more that
-- it uses, in its domain. Here those that are known agree with those in force after messages, which stand newest first.
abbrev pub TablesAgree : List (ℕ × List (ℕ × Template)) → List (List ℕ) → List ℕ → Type 0
TablesAgree known older message =
    IfOk (items_of message) (AgreeOn (in_force_after (domain_of message) older) (known_in (domain_of message) known))

-- the ID of an item that is a Data Set
abbrev pub data_set_of : Item → Option ℕ
data_set_of (DataSet id start len) = Some id
data_set_of (Define id t) = None
data_set_of (Withdraw id) = None
data_set_of (WithdrawAll options) = None
data_set_of (Refused id why) = None
data_set_of (Skipped set) = None

-- whether the Data Set before had this ID too
abbrev pub is_again : Option ℕ → ℕ → Bool
is_again None id = false
is_again (Some before) id = before == id

-- of each Data Set the ID with the template that it has; of Data Sets with one ID, one after another, once
unfoldable pub used_by : (ℕ → Option Template) → Option ℕ → List Item → List (ℕ × Option Template)
used_by found before [] = []
used_by found before (DataSet id start len ∷ items) =
    if is_again before id then used_by found before items else (id, found id) ∷ used_by found (Some id) items
used_by found before (Define id t ∷ items) = used_by found before items
used_by found before (Withdraw id ∷ items) = used_by found before items
used_by found before (WithdrawAll options ∷ items) = used_by found before items
used_by found before (Refused id why ∷ items) = used_by found before items
used_by found before (Skipped set ∷ items) = used_by found before items

-- an ID of a domain has this template, or none, after messages
abbrev pub IsUseInForce : ℕ → List (List ℕ) → ℕ × Option Template → Type 0
IsUseInForce domain older used = in_force_after domain older used.0 ≡ used.1

abbrev pub AreUsesInForce : ℕ → List (List ℕ) → List (ℕ × Option Template) → Type 0
AreUsesInForce domain older uses = AllByRecursion (IsUseInForce domain older) uses
