-- Messages that leave the templates of their session as they are (RFC 7011, sections 3.4 and 8.1), and the templates on which
-- their meaning depends.
use Rattle.std.specs.Prelude.{◌≡◌, ℕ, List, Option, IfOk}
use Rattle.std.specs.List.{AllByRecursion}
use Rattle.ipfix_template.specs.declared.template.Template.{Template}
use Rattle.ipfix_message.specs.declared.item.Item.{Item}
use Rattle.ipfix_message.specs.declared.item.Item.TheVariants.{Define, Withdraw, WithdrawAll, Refused, DataSet, Skipped}
use Rattle.ipfix_message.specs.Reading.{items_of}
use Rattle.ipfix_session.specs.InForce.{template_in_force}
use Rattle.ipfix_session.specs.Meaning.{items_of_domain}

-- an item that neither defines nor withdraws a template; a definition that is refused withdraws one
abbrev pub BringsNoTemplate : Item → Type 0
BringsNoTemplate (DataSet id start len) = Unit {0}
BringsNoTemplate (Skipped set) = Unit {0}
BringsNoTemplate (Define id t) = ⊥
BringsNoTemplate (Refused id why) = ⊥
BringsNoTemplate (Withdraw id) = ⊥
BringsNoTemplate (WithdrawAll options) = ⊥

abbrev pub BringNoTemplates : List Item → Type 0
BringNoTemplates items = AllByRecursion BringsNoTemplate items

-- a message of which no item changes a template
abbrev pub HasNoTemplates : List ℕ → Type 0
HasNoTemplates message = IfOk (items_of message) BringNoTemplates

-- where the item is a Data Set, its ID has the same template, or none, by the one and by the other
abbrev pub AgreesOn : (ℕ → Option Template) → (ℕ → Option Template) → Item → Type 0
AgreesOn found known (DataSet id start len) = found id ≡ known id
AgreesOn found known (Skipped set) = Unit {0}
AgreesOn found known (Define id t) = Unit {0}
AgreesOn found known (Refused id why) = Unit {0}
AgreesOn found known (Withdraw id) = Unit {0}
AgreesOn found known (WithdrawAll options) = Unit {0}

-- the IDs of all Data Sets have the same templates by the one and by the other
abbrev pub AgreeOn : (ℕ → Option Template) → (ℕ → Option Template) → List Item → Type 0
AgreeOn found known items = AllByRecursion (AgreesOn found known) items

-- the template that an ID of a domain has after messages, which stand newest first
abbrev pub in_force_after : ℕ → List (List ℕ) → ℕ → Option Template
in_force_after domain messages id = template_in_force id (items_of_domain domain messages)
