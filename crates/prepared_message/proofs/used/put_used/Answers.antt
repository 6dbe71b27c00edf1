use Rattle.std.proofs.Common.{ℕ, List, [], ◌∷◌, Option, Some, map, sym, ap, ◌∙◌, ◌++◌}
use Rattle.ipfix_template.specs.declared.template.Template.{Template}
use Rattle.prepared_message.specs.declared.used.Used.{Used}
use Rattle.prepared_message.specs.Uses.{known_in, used_by}
use Rattle.prepared_message.specs.Seen.{used_pair}
use Rattle.prepared_message.proofs.UseLaws.{put_new, put_again, put_other}
use Rattle.prepared_message.proofs.used.put_used.Goals as goal

pub returns-in_ok-used_of-in-Some : goal.returns-in_ok-used_of-in-Some
returns-in_ok-used_of-in-Some c = λ items.
    ap (λ (xs : List Used). map used_pair xs ++ used_by (known_in c.args.domain c.args.templates.now) (Some c.in-Some.id) items) (c.push_reserved.ensures.items ∙ ap (λ (xs : List Used). xs ++ c.in_ok-used_of-in-Some.field-0 ∷ []) c.reserve.ensures.items)
    ∙ put_new (known_in c.args.domain c.args.templates.now) c.args.before.now c.args.item.now c.in-Some.id c.args.uses.now.items c.in_ok-used_of-in-Some.field-0 items
    (sym c.data_set_of.ensures ∙ c.in-Some.is) (sym c.is_again.ensures ∙ c.if-not-is_again.true) c.in_ok-used_of-in-Some.ensures

pub returns-in_default : goal.returns-in_default
returns-in_default c = λ items.
    put_again (known_in c.args.domain c.args.templates.now) c.args.before.now c.args.item.now c.in-Some.id (map used_pair c.args.uses.now.items) items (sym c.data_set_of.ensures ∙ c.in-Some.is) (sym c.is_again.ensures ∙ c.if-not-is_again.false)

pub returns-in_default-2 : goal.returns-in_default-2
returns-in_default-2 c = λ items.
    put_other (known_in c.args.domain c.args.templates.now) c.args.before.now c.args.item.now (map used_pair c.args.uses.now.items) items (sym c.data_set_of.ensures ∙ c.in_default.is)
