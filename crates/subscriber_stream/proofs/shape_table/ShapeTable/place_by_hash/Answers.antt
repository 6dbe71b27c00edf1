use Rattle.std.proofs.Common.{refl, not, sym, ap, ◌∙◌}
use Rattle.std.proofs.lemmas.List.{map_push}
use Rattle.std.specs.Arc.{arc_value}
use Rattle.ipfix_template.specs.Equality.{same_template}
use Rattle.subscriber_stream.proofs.TableLaws.{list_any-map, position_or_len-map, map-chosen}
use Rattle.subscriber_stream.proofs.shape_table.ShapeTable.place_by_hash.Goals as goal

pub returns-clause-shapes : goal.returns-clause-shapes
returns-clause-shapes c =
    let keys = c.self.inside.shapes.keys in
    let test = same_template (arc_value c.args.shape) in
    rw (← c.self.view_is, c.in-Ok.ensures.keys, map-chosen arc_value, map_push, list_any-map arc_value test keys) refl

pub returns-clause-place : goal.returns-clause-place
returns-clause-place c =
    let keys = c.self.inside.shapes.keys in
    let test = same_template (arc_value c.args.shape) in
    rw (← c.self.view_is) (c.in-Ok.ensures.index ∙ sym (position_or_len-map arc_value test keys))

pub returns-clause-added : goal.returns-clause-added
returns-clause-added c =
    let keys = c.self.inside.shapes.keys in
    let test = same_template (arc_value c.args.shape) in
    rw (← c.self.view_is) (c.in-Ok.ensures.added ∙ ap not (sym (list_any-map arc_value test keys)))
