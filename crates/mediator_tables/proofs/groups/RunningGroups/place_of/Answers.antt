use Rattle.std.proofs.Common.{◌∙◌, ap, sym, is_some}
use Rattle.indexmap.proofs.CallerLemmas.{insert_entry-new}
use Rattle.mediator_tables.proofs.GroupTableLaws.{placed_found, held_pushed, pushed_at, places_pushed, not_found}
use Rattle.mediator_tables.proofs.groups.RunningGroups.place_of.Goals as goal

pub returns-in-Some-clause-ok : goal.returns-in-Some-clause-ok
returns-in-Some-clause-ok c = placed_found c.args.self.now c.self.inside.by_number.entries c.args.sub c.in-Some.place c.self.view_is (sym c.get_index_of.ensures.index ∙ c.in-Some.is)

pub returns-in_ok-insert-in-None-clause-unchanged : goal.returns-in_ok-insert-in-None-clause-unchanged
returns-in_ok-insert-in-None-clause-unchanged c q =
    let none = not_found _ (sym c.get_index_of.ensures.found ∙ ap is_some c.in-None.is) in
    held_pushed c.args.self.now c.self.inside.by_number.entries c.insert.new.self.entries c.args.sub q c.hashed.result c.self.view_is c.hashed.ensures
    (c.in_ok-insert-in-None.ensures.entries ∙ insert_entry-new _ c.self.inside.by_number c.args.sub c.hashed.result none)

pub returns-in_ok-insert-in-None-clause-ok : goal.returns-in_ok-insert-in-None-clause-ok
returns-in_ok-insert-in-None-clause-ok c =
    let none = not_found _ (sym c.get_index_of.ensures.found ∙ ap is_some c.in-None.is) in
    pushed_at c.self.inside.by_number.entries c.insert.new.self.entries c.args.sub c.len-place.result c.hashed.result c.len-place.ensures.len
    (c.in_ok-insert-in-None.ensures.entries ∙ insert_entry-new _ c.self.inside.by_number c.args.sub c.hashed.result none)

pub returns-in_ok-insert-in-None-clause-places : goal.returns-in_ok-insert-in-None-clause-places
returns-in_ok-insert-in-None-clause-places c place q at =
    let none = not_found _ (sym c.get_index_of.ensures.found ∙ ap is_some c.in-None.is) in
    places_pushed c.args.self.now c.self.inside.by_number.entries c.insert.new.self.entries c.args.sub place q c.hashed.result c.self.view_is
    (c.in_ok-insert-in-None.ensures.entries ∙ insert_entry-new _ c.self.inside.by_number c.args.sub c.hashed.result none) at
