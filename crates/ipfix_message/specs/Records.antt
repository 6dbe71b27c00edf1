-- What a record of a Template or an Options Template Set says (RFC 7011, sections 3.4 and 8.1). This project's own rules: a
-- withdrawal of one ID may stand in either kind of set, and one of another ID below 256 is refused by itself.
use Rattle.std.specs.Prelude.{ℕ, Bool, true, false, Option, Some, None, nat_lt, ◌==◌, if◌then◌else◌}
use Rattle.ipfix_octets.specs.MessageFormat.{template_set_id, options_template_set_id, least_template_id}
use Rattle.ipfix_template.specs.declared.template.Template.{Template}
use Rattle.ipfix_template.specs.declared.template.Refused.{Refused}
use Rattle.ipfix_template.specs.declared.template.Refused.TheVariants.{BadId}
use Rattle.ipfix_template.specs.Template.{refusal_of}
use Rattle.ipfix_message.specs.declared.item.Item.{Item}
use Rattle.ipfix_message.specs.declared.item.Item.TheVariants as items

-- the ID of the sets that define templates of a kind
abbrev pub set_id : Bool → ℕ
set_id false = template_set_id
set_id true = options_template_set_id

-- a record with no fields: a withdrawal of all templates of the set's kind or of one ID, or a refusal
abbrev pub bare_item : Bool → ℕ → Item
bare_item options id =
    if id == set_id options then items.WithdrawAll options
    else if nat_lt id least_template_id then items.Refused id BadId
    else items.Withdraw id

abbrev pub judged_item : ℕ → Template → Option Refused → Item
judged_item id t None = items.Define id t
judged_item id t (Some why) = items.Refused id why

-- a record with fields: a definition, or a refusal with its first reason
abbrev pub template_item : Bool → ℕ → Template → Item
template_item options id t = judged_item id t (refusal_of id options t)
