use Rattle.std.proofs.Common.{refl, sym, ap, ◌∙◌, subst, List, ℕ}
use Rattle.std.specs.Prelude.{IsOk}
use Rattle.sequences.specs.Sequence.{read_all}
use Rattle.prepared_message.specs.SetIds.{id_front, set_ids, has_one_read, has_template_set}
use Rattle.prepared_message.proofs.SetLaws.{IsLeft, id_takes, found_one, not_yet, none_left, first_left}
use Rattle.prepared_message.proofs.sets.has_template_set.Goals as goal

pub sets-init : goal.sets-init
sets-init c = subst (λ (rest : List ℕ). IsLeft rest c.args.message.now) (sym c.split_at.ensures.back) (first_left c.args.message.now c.requires.sets)

pub returns-then-is_of_templates : goal.returns-then-is_of_templates
returns-then-is_of_templates c =
    found_one c.in-Some.id c.sets.rest.now c.in-Some.after.now c.args.message.now (rw c.in-Some.is at c.first_set.ensures) (sym c.is_of_templates.ensures ∙ c.if-is_of_templates.true) c.sets.invariant

pub sets-smaller : goal.sets-smaller
sets-smaller c = id_takes c.sets.rest.now c.in-Some.after.now _ (rw c.in-Some.is at c.first_set.ensures)

pub sets-preserved : goal.sets-preserved
sets-preserved c =
    not_yet c.in-Some.id c.sets.rest.now c.in-Some.after.now c.args.message.now (rw c.in-Some.is at c.first_set.ensures) (sym c.is_of_templates.ensures ∙ c.if-is_of_templates.false) c.sets.invariant

pub returns : goal.returns
returns c = none_left c.first_set.result c.sets.rest.now c.args.message.now c.in_default.not-Some c.first_set.ensures c.sets.invariant
