-- The template in force after items of one session and domain (RFC 7011, sections 8 and 8.1). This project's own rules: a later
-- definition of an ID replaces the earlier one, a refused one withdraws it, and the withdrawal of an ID counts for a template of
-- either kind.
use Rattle.std.specs.Prelude.{ℕ, Bool, true, false, List, [], ◌∷◌, Option, Some, None, not, ◌==◌, if◌then◌else◌}
use Rattle.ipfix_template.specs.declared.template.Template.{Template}
use Rattle.ipfix_template.specs.Template.{is_options}
use Rattle.ipfix_message.specs.declared.item.Item.{Item}
use Rattle.ipfix_message.specs.declared.item.Item.TheVariants.{Define, Withdraw, WithdrawAll, Refused, DataSet, Skipped}

-- whether two kinds of templates, options templates or plain ones, are one
abbrev pub same_kind : Bool → Bool → Bool
same_kind true b = b
same_kind false true = false
same_kind false false = true

abbrev pub is_other_kind : Bool → Template → Bool
is_other_kind options t = not (same_kind options (is_options t))

-- what a withdrawal of all templates of a kind leaves of one ID's
abbrev pub unless_of_kind : Bool → Option Template → Option Template
unless_of_kind options None = None
unless_of_kind options (Some t) = if is_other_kind options t then Some t else None

-- The items stand newest first. The newest that defines, refuses or singly withdraws the ID decides: a definition is
-- in force unless all templates of its kind were withdrawn after it.
unfoldable pub template_in_force : ℕ → List Item → Option Template
template_in_force id [] = None
template_in_force id (Define other t ∷ older) = if id == other then Some t else template_in_force id older
template_in_force id (Refused other why ∷ older) = if id == other then None else template_in_force id older
template_in_force id (Withdraw other ∷ older) = if id == other then None else template_in_force id older
template_in_force id (WithdrawAll options ∷ older) = unless_of_kind options (template_in_force id older)
template_in_force id (DataSet other start len ∷ older) = template_in_force id older
template_in_force id (Skipped set ∷ older) = template_in_force id older
