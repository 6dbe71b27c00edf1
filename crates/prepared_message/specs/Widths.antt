-- How many values the Data Sets of a message may have: this project's own measure of how much work a message is. Where each value takes
-- an octet or more, as it does in all honest templates, that isn't more than twice the octets of the Data Sets.
use Rattle.std.specs.Prelude.{◌≡◌, ℕ, ◌+◌, ◌*◌, ◌/◌, ◌<◌, List, [], ◌∷◌, Option, Some, None, Ok, length, max, ◌==◌, if◌then◌else◌}
use Rattle.std.specs.Option.{option_map, option_or}
use Rattle.ipfix_template.specs.declared.template.Template.{Template}
use Rattle.ipfix_template.specs.Template.{shortest_record}
use Rattle.ipfix_message.specs.declared.item.Item.{Item}
use Rattle.ipfix_message.specs.declared.item.Item.TheVariants.{Define, Withdraw, WithdrawAll, Refused, DataSet, Skipped}
use Rattle.ipfix_message.specs.Reading.{items_of}
use Rattle.ipfix_session.specs.Meaning.{domain_of}
use Rattle.prepared_message.specs.declared.width.Width.{Width}
use Rattle.prepared_message.specs.declared.width.TheConstants.{VALUES_AN_OCTET}
use Rattle.prepared_message.specs.Uses.{known_in}

-- how many values a record of a template has, and the octets of its shortest one
abbrev pub width_of : Template → Width
width_of t = record { fields = length t.fields; shortest = shortest_record t }

-- of a Data Set of so many octets: the values of as many records as fit in, and of one more, since the fields are gone through also
-- where there is no record; none where no template is known
abbrev pub set_values : Option Width → ℕ → ℕ
set_values None octets = 0
set_values (Some w) octets = w.fields * (octets / max w.shortest 1) + w.fields

-- by the template that an ID is given, and else as before
abbrev pub with_width : ℕ → Width → (ℕ → Option Width) → ℕ → Option Width
with_width id w known other = if other == id then Some w else known other

-- by the first of two, and else by the second
abbrev pub given_or : (ℕ → Option Width) → (ℕ → Option Width) → ℕ → Option Width
given_or first known id = option_or (first id) (known id)

-- of all Data Sets of a message, each by the template that its ID was given last; templates that a message withdraws count on
unfoldable pub values_by_widths : (ℕ → Option Width) → List Item → ℕ
values_by_widths known [] = 0
values_by_widths known (Define id t ∷ said) = values_by_widths (with_width id (width_of t) known) said
values_by_widths known (DataSet id start octets ∷ said) = set_values (known id) octets + values_by_widths known said
values_by_widths known (Withdraw id ∷ said) = values_by_widths known said
values_by_widths known (WithdrawAll options ∷ said) = values_by_widths known said
values_by_widths known (Refused id why ∷ said) = values_by_widths known said
values_by_widths known (Skipped set ∷ said) = values_by_widths known said

-- the widths of the templates of a domain, by those that are known of all domains
abbrev pub widths_in : ℕ → List (ℕ × List (ℕ × Template)) → ℕ → Option Width
widths_in domain known id = option_map width_of (known_in domain known id)

-- the octets are a message, and by templates that are known of all domains its Data Sets may have more values than are allowed
pub record IsTooWide (known : List (ℕ × List (ℕ × Template))) (message : List ℕ) : Type 0 where
  pub said : List Item
  pub items : items_of message ≡ Ok said
  pub many : length message * VALUES_AN_OCTET < values_by_widths (widths_in (domain_of message) known) said
