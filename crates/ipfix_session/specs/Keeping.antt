-- What a session keeps of a domain: templates by their IDs.
use Rattle.std.specs.Prelude.{◌≡◌, ◌≤◌, ◌+◌, ℕ, List, Option}
use Rattle.std.specs.Ordering.{nat_cmp}
use Rattle.std.specs.Map.{lookup}
use Rattle.std.specs.BTreeMap.{is_at}
use Rattle.std.specs.List.{AllByRecursion}
use Rattle.ipfix_octets.specs.MessageFormat.{header_octets, set_header_octets, least_template_id}
use Rattle.ipfix_template.specs.declared.template.Template.{Template}
use Rattle.ipfix_template.specs.Template.{IsAcceptable, is_options, template_record}
use Rattle.ipfix_template.specs.DataRecord.{FitsOneMessage}
use Rattle.ipfix_message.specs.declared.item.Item.{Item}
use Rattle.ipfix_message.specs.declared.item.Item.TheVariants.{Define, Withdraw, WithdrawAll, Refused, DataSet, Skipped}
use Rattle.ipfix_session.specs.InForce.{template_in_force}

-- what is kept under a key
abbrev pub at_key : {X : Type 0} → ℕ → List (ℕ × X) → Option X
at_key key entries = lookup (is_at (nat_cmp key)) entries

-- a template of which records may be made: it is accepted, and its record fits one message
pub record IsKeepable (t : Template) : Type 0 where
  pub accepted : IsAcceptable t
  pub fits : FitsOneMessage (template_record least_template_id (is_options t) t)

-- each ID has the template that is in force after these items, newest first
abbrev pub AreInForce : (ℕ → Option Template) → List Item → Type 0
AreInForce found items = (id : ℕ) → found id ≡ template_in_force id items

-- what is kept is what is in force after these items
abbrev pub Keeps : List (ℕ × Template) → List Item → Type 0
Keeps kept items = AreInForce (λ id. at_key id kept) items

-- an item that stands in a message of so many octets: what it defines may be kept, and its Data Set lies behind the
-- headers of message and set
abbrev pub MayStandIn : ℕ → Item → Type 0
MayStandIn total (Define id t) = IsKeepable t
MayStandIn total (DataSet id start len) = (header_octets + set_header_octets ≤ start) × (start + len ≤ total)
MayStandIn total (Withdraw id) = Unit {0}
MayStandIn total (WithdrawAll options) = Unit {0}
MayStandIn total (Refused id why) = Unit {0}
MayStandIn total (Skipped set) = Unit {0}

abbrev pub StandIn : ℕ → List Item → Type 0
StandIn total items = AllByRecursion (MayStandIn total) items
