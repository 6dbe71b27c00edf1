use Rattle.std.proofs.Common.{length}
use Rattle.std.proofs.lemmas.List.{length_push}
use Rattle.std.proofs.lemmas.Slice.Zip.{zip_turn, zip_end}
use Rattle.flow_anonymize.proofs.StepLaws.{one_made, all_made}
use Rattle.flow_anonymize.proofs.steps.made_steps.Goals as goal

pub fields-preserved : goal.fields-preserved
fields-preserved c =
    let t = zip_turn c.args.fields.now c.args.verdicts.now c.fields.yielded c.into_iter-field-iterator.result c.fields.field-iterator c.next.new.self c.next.result (cc) (cc) c.fields.yielded_by (c.in-Some.field, c.in-Some.verdict) c.in-Some.is c.next.ensures.steps in
    one_made c.args.fields.now c.args.verdicts.now (length c.fields.yielded) _ c.in-Some.field.now c.in-Some.verdict.now c.fields.steps.items c.join.new.steps.items c.fields.last c.step_of-next.result c.in_ok-last.last
    (length_push c.fields.yielded (c.in-Some.field, c.in-Some.verdict)) t.0 t.1 (t.2 c.in-Some.field.now) (t.3 c.in-Some.verdict.now) c.step_of-next.ensures c.in_ok-last.ensures c.fields.invariant

pub returns : goal.returns
returns c =
    let n = zip_end c.args.fields.now c.args.verdicts.now c.fields.yielded c.into_iter-field-iterator.result c.fields.field-iterator c.next.new.self c.next.result (cc) (cc) c.fields.yielded_by c.in-None.is c.next.ensures.steps in
    all_made c.args.fields.now c.args.verdicts.now (length c.fields.yielded) c.fields.steps.items c.end.new.steps.items c.fields.last n c.in_ok-end.ensures c.fields.invariant
