use Rattle.std.proofs.Common.{◌≡◌, ◌++◌, ◌<◌, ◌≤◌, List, length, arith, refl, sym, ap, ◌∙◌}
use Rattle.std.specs.Arc.{arc_value}
use Rattle.std.specs.List.{position_or_len}
use Rattle.ipfix_template.specs.declared.template.Template.{Template}
use Rattle.ipfix_template.specs.Template.{is_options, template_record}
use Rattle.ipfix_template.specs.Equality.{same_template}
use Rattle.ipfix_records.proofs.RunLaws.{length_records_of}
use Rattle.subscriber_stream.specs.declared.waiting.Waiting.{Waiting}
use Rattle.subscriber_stream.specs.Shapes.{with_shape}
use Rattle.subscriber_stream.specs.Items.{stream_parts}
use Rattle.subscriber_stream.specs.Waiting.{items_in}
use Rattle.subscriber_stream.proofs.Rooms.{shapes_with_run}
use Rattle.subscriber_stream.proofs.Standings.{queued_entries}
use Rattle.subscriber_stream.proofs.Pushing.{Takes, new_run, taken, put_is, given_run-view, place_holds, place_below, template_kept}
use Rattle.subscriber_stream.proofs.stream.Stream.push_run.Goals as goal

-- the shapes are within the limit
few_shapes : (c : goal.After-place_reserved-place) → length (with_shape c.self.inside.shapes.shapes c.args.next.template) ≤ c.self.inside.limits.shapes
few_shapes c =
    let few = rw (← c.self.view_is) at c.requires.room.shapes in
    omega (arith, few, ap length (shapes_with_run c.self.inside.shapes.shapes c.args.next.template c.args.next.texts (omega (arith, c.len-count.ensures.value))))

-- the place is that of the template
place_is : (c : goal.After-place_reserved-place) → c.place_reserved-place.result.0 ≡ position_or_len (same_template c.args.next.template) c.self.inside.shapes.shapes
place_is c =
    c.place_reserved-place.ensures.place ∙ ap (λ (t : Template). position_or_len (same_template t) c.self.inside.shapes.shapes) c.into_parts-template.ensures.template

pub overflow_cast-id : goal.overflow_cast-id
overflow_cast-id c =
    omega (arith, few_shapes c, place_is c, place_below c.self.inside.shapes.shapes c.args.next.template, c.self.invariant.few_ids)

pub overflow_add-id : goal.overflow_add-id
overflow_add-id c =
    omega (arith, few_shapes c, place_is c, place_below c.self.inside.shapes.shapes c.args.next.template, c.self.invariant.few_ids)

pub shape-requires : goal.shape-requires
shape-requires c =
    let place = c.place_reserved-place.ensures.place in
    omega (arith, place, place_below c.self.inside.shapes.shapes (arc_value c.into_parts-template.result.0), ap length c.place_reserved-place.ensures.shapes)

pub announced_octets-announced-requires : goal.announced_octets-announced-requires
announced_octets-announced-requires c =
    let found = place_holds c.self.inside.shapes.shapes _ (arc_value c.into_parts-template.result.0) _ _ c.place_reserved-place.ensures.shapes c.place_reserved-place.ensures.place c.shape.ensures ∙ c.into_parts-template.ensures.template in
    let few = (template_kept c.args.next.template c.args.next.texts (omega (arith, c.len-count.ensures.value)) c.into_parts-template.ensures.kept).1 in
    omega (arith, few, ap (λ (t : Template). length (template_record 256 (is_options t) t)) found)

pub overflow_add-self : goal.overflow_add-self
overflow_add-self c =
    let queue = rw (← c.self.view_is) at c.requires.room.queue in
    omega (arith, queue, queued_entries c.self.inside.shapes.shapes (items_in c.self.inside.queue.items), c.self.invariant.counted, c.len-count.ensures.value, length_records_of c.args.next)

-- what the run asks for is there
takes : (c : goal.After-self-2-1) → Takes c.self.inside.shapes c.place_reserved-place.new.self c.self.inside.limits c.self.inside.waiting c.self.inside.handed c.self.inside.spare c.args.next.template c.args.next.texts (length (template_record 256 (is_options c.args.next.template) c.args.next.template))
takes c =
    let some : 0 < length c.args.next.texts = omega (arith, c.len-count.ensures.value) in
    let of_template = template_kept c.args.next.template c.args.next.texts some c.into_parts-template.ensures.kept in
    let queue = rw (← c.self.view_is) at c.requires.room.queue in
    let shapes = rw (← c.self.view_is) at c.requires.room.shapes in
    let below = rw (← c.self.view_is) at c.requires.count in
    let counted = queued_entries c.self.inside.shapes.shapes (items_in c.self.inside.queue.items) in
    record {
      accepted = of_template.0;
      announces = refl;
      announced_few = of_template.1;
      kept = c.into_parts-template.ensures.kept;
      some = some;
      reserved = rw (← c.self.view_is) at c.requires.reserved;
      few = omega (arith, shapes, ap length (shapes_with_run c.self.inside.shapes.shapes c.args.next.template c.args.next.texts some));
      queue = omega (arith, queue, counted, c.self.invariant.counted, length_records_of c.args.next);
      below = omega (arith, below, counted, c.self.invariant.counted);
      shapes = c.place_reserved-place.ensures.shapes ∙ ap (λ (t : Template). with_shape c.self.inside.shapes.shapes t) c.into_parts-template.ensures.template;
      spare_left = c.place_reserved-place.ensures.kept;
    }

queue_is : (c : goal.After-self-2-1) → c.put_waiting.new.queue.items ≡ c.self.inside.queue.items ++ new_run c.self.inside.shapes.shapes c.args.next.template c.args.next.texts (length (template_record 256 (is_options c.args.next.template) c.args.next.template))
queue_is c =
    let found = place_holds c.self.inside.shapes.shapes _ (arc_value c.into_parts-template.result.0) _ _ c.place_reserved-place.ensures.shapes c.place_reserved-place.ensures.place c.shape.ensures ∙ c.into_parts-template.ensures.template in
    c.put_waiting.ensures.items ∙ ap (λ (ws : List Waiting). c.self.inside.queue.items ++ ws) (put_is c.self.inside.shapes.shapes c.args.next.template (arc_value c.into_parts-template.result.0) _ c.args.next.texts _ _ _ _ c.into_parts-template.ensures.template found c.place_reserved-place.ensures.place c.place_reserved-place.ensures.added c.announced_octets-announced.ensures (c.new.ensures ∙ c.into_parts-template.ensures.texts))

pub invariant_of-self : goal.invariant_of-self
invariant_of-self c =
    rw (queue_is c, c.put_waiting.ensures.capacity, c.len-count.ensures.value) (taken c.self.inside.shapes c.place_reserved-place.new.self c.self.inside.queue.items _ _ _ _ _ _ _ c.self.invariant (takes c)).0

pub returns : goal.returns
returns c =
    rw c.len-count.ensures.value (given_run-view c.args.self.now c.args.next _ _ _ _ _ _ _ _ (sym c.self.view_is) (takes c).some (takes c).shapes (ap (λ (ws : List Waiting). stream_parts c.place_reserved-place.new.self.shapes (items_in ws)) (queue_is c) ∙ (taken c.self.inside.shapes c.place_reserved-place.new.self c.self.inside.queue.items _ _ _ _ _ _ _ c.self.invariant (takes c)).1))
