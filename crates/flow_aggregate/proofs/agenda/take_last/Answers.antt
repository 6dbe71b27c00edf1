use Rattle.std.proofs.Common.{List, slice_get, sym, ap, ◌∙◌}
use Rattle.std.specs.List.{list_any}
use Rattle.flow_aggregate.specs.Groups.{Group}
use Rattle.flow_aggregate.specs.GroupOrder.{same_group}
use Rattle.flow_aggregate.proofs.AgendaLaws.{removed, none_without}
use Rattle.flow_aggregate.proofs.agenda.take_last.Goals as goal

pub returns-in-Some : goal.returns-in-Some
returns-in-Some c =
    c.remove.ensures.items
    ∙ removed c.args.groups.now.items c.in-Some.place c.args.group.now c.requires (ap (λ (gs : List Group). slice_get gs c.in-Some.place) (sym c.deref.ensures.value) ∙ c.in-Some.ensures.some)

pub returns-in_default : goal.returns-in_default
returns-in_default c =
    none_without c.args.group.now c.args.groups.now.items (ap (λ (gs : List Group). list_any (same_group c.args.group.now) gs) (sym c.deref.ensures.value) ∙ c.in_default.ensures.none)
