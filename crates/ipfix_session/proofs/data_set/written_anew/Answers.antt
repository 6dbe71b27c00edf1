use Rattle.std.proofs.Common.{get_or, length, ap, arith}
use Rattle.std.proofs.lemmas.Result.{IfOk-weaker}
use Rattle.std.specs.Arc.{arc_value}
use Rattle.ipfix_session.proofs.SetSteps.{next_read, text_along, text_written, few_written, rewrites_more, rewrites_all}
use Rattle.ipfix_session.proofs.data_set.written_anew.Goals as goal

pub slice-requires-clause-start_le_end : goal.slice-requires-clause-start_le_end
slice-requires-clause-start_le_end c =
    (next_read (arc_value c.args.template.now) c.args.content.now c.args.found.now.ends.items c.deref-end-items.result.now c.loop-end.end-index c.loop-end.start c.args.found.now.used c.deref-end-items.ensures.value c.loop-end-test.true c.requires.found.ends c.requires.found.texts c.loop-end.invariant.at).ordered

pub slice-requires-clause-in_bounds : goal.slice-requires-clause-in_bounds
slice-requires-clause-in_bounds c =
    let next = next_read (arc_value c.args.template.now) c.args.content.now c.args.found.now.ends.items c.deref-end-items.result.now c.loop-end.end-index c.loop-end.start c.args.found.now.used c.deref-end-items.ensures.value c.loop-end-test.true c.requires.found.ends c.requires.found.texts c.loop-end.invariant.at in
    omega (arith, next.within, c.requires.found.within)

pub read-requires-clause-sound : goal.read-requires-clause-sound
read-requires-clause-sound c =
    let t = arc_value c.args.template.now in
    let next = next_read t c.args.content.now c.args.found.now.ends.items c.deref-end-items.result.now c.loop-end.end-index c.loop-end.start c.args.found.now.used c.deref-end-items.ensures.value c.loop-end-test.true c.requires.found.ends c.requires.found.texts c.loop-end.invariant.at in
    (text_along t (arc_value c.in_ok-clone.field-0) _ c.in_ok-text.text c.in_ok-clone.ensures.cases c.in_ok-text.ensures.ok next.is).sound

pub read-requires-clause-splits : goal.read-requires-clause-splits
read-requires-clause-splits c =
    let t = arc_value c.args.template.now in
    let next = next_read t c.args.content.now c.args.found.now.ends.items c.deref-end-items.result.now c.loop-end.end-index c.loop-end.start c.args.found.now.used c.deref-end-items.ensures.value c.loop-end-test.true c.requires.found.ends c.requires.found.texts c.loop-end.invariant.at in
    (text_along t (arc_value c.in_ok-clone.field-0) _ c.in_ok-text.text c.in_ok-clone.ensures.cases c.in_ok-text.ensures.ok next.is).splits

pub overflow_cast-len : goal.overflow_cast-len
overflow_cast-len c =
    let t = arc_value c.args.template.now in
    let content = c.args.content.now in
    let ends = c.args.found.now.ends.items in
    let end = get_or c.deref-end-items.result.now c.loop-end.end-index 0 in
    let next = next_read t content ends c.deref-end-items.result.now c.loop-end.end-index c.loop-end.start c.args.found.now.used c.deref-end-items.ensures.value c.loop-end-test.true c.requires.found.ends c.requires.found.texts c.loop-end.invariant.at in
    let more = text_written t (arc_value c.in_ok-clone.field-0) c.in_ok-text.text c.as_octets.result.now c.deref.result.now c.in_ok-single.single c.in_ok-clone.ensures.cases c.in_ok-single.ensures.value c.as_octets.ensures.value c.deref.ensures in
    let short = few_written t content ends c.in_ok-text.text c.loop-end.octets.items c.loop-end.written.items c.deref.result.now c.loop-end.end-index c.loop-end.start end c.args.found.now.used c.requires.fits c.requires.found.within next c.in_ok-text.ensures.ok more c.loop-end.invariant in
    omega (arith, short, next.within, c.requires.found.within, c.requires.fits, c.len-in-loop-end.ensures, c.extend_from_slice.new.self.ok, ap length c.in_ok-extend_from_slice.ensures.items)

pub loop-end-preserved : goal.loop-end-preserved
loop-end-preserved c =
    let t = arc_value c.args.template.now in
    let content = c.args.content.now in
    let ends = c.args.found.now.ends.items in
    let end = get_or c.deref-end-items.result.now c.loop-end.end-index 0 in
    let next = next_read t content ends c.deref-end-items.result.now c.loop-end.end-index c.loop-end.start c.args.found.now.used c.deref-end-items.ensures.value c.loop-end-test.true c.requires.found.ends c.requires.found.texts c.loop-end.invariant.at in
    let more = text_written t (arc_value c.in_ok-clone.field-0) c.in_ok-text.text c.as_octets.result.now c.deref.result.now c.in_ok-single.single c.in_ok-clone.ensures.cases c.in_ok-single.ensures.value c.as_octets.ensures.value c.deref.ensures in
    rewrites_more t content ends c.in_ok-text.text c.loop-end.octets.items c.loop-end.written.items c.deref.result.now c.extend_from_slice.new.self.items c.push.new.self.items c.loop-end.end-index c.loop-end.start end c.args.found.now.used c.len-in-loop-end.result c.requires.fits c.requires.found.within (omega (arith, c.loop-end-test.true, ap length c.deref-end-items.ensures.value)) next c.in_ok-text.ensures.ok more c.in_ok-extend_from_slice.ensures.items (omega (arith, c.len-in-loop-end.ensures, c.extend_from_slice.new.self.ok)) c.in_ok-push.ensures.items c.loop-end.invariant

pub returns : goal.returns
returns c =
    IfOk-weaker c.new.result _ _ (λ run is. rewrites_all (arc_value c.args.template.now) (arc_value c.in_ok-clone-2.field-0) c.args.content.now c.args.found.now.ends.items c.loop-end.octets.items c.in_ok-from_vec.field-0 c.loop-end.written.items c.loop-end.end-index c.loop-end.start run is c.in_ok-clone-2.ensures.cases c.in_ok-from_vec.ensures.ok (omega arith) c.loop-end.invariant) c.new.ensures
