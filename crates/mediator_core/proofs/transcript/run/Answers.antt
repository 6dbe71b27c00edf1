use Rattle.std.proofs.Common.{[], ◌∷◌, length, ap, length-append, arith}
use Rattle.std.specs.Vec.Iter.{into_iter_items}
use Rattle.std.proofs.lemmas.List.{nil_from_length}
use Rattle.mediator_calls.specs.Mediation.{started}
use Rattle.mediator_core.proofs.RunLaws.{run_goes_on, run_ends, history_is_the_calls, handed_is_disclosed, handed_is_front, drained_is_audited, built_from_disclosed}
use Rattle.mediator_core.proofs.transcript.run.Goals as goal

pub returns-clause-steps : goal.returns-clause-steps
returns-clause-steps c = run_ends (started c.args.limits) c.calls.mediator c.args.calls.items c.calls.replies.items (into_iter_items c.calls.call-iterator) (nil_from_length (into_iter_items c.calls.call-iterator) (omega (arith, c.in-None.ensures.steps.0))) c.calls.invariant.run

pub returns-clause-history : goal.returns-clause-history
returns-clause-history c = history_is_the_calls c.args.limits c.args.calls.items c.calls.replies.items c.calls.mediator (run_ends (started c.args.limits) c.calls.mediator c.args.calls.items c.calls.replies.items (into_iter_items c.calls.call-iterator) (nil_from_length (into_iter_items c.calls.call-iterator) (omega (arith, c.in-None.ensures.steps.0))) c.calls.invariant.run)

pub returns-clause-disclosed : goal.returns-clause-disclosed
returns-clause-disclosed c = handed_is_disclosed c.args.limits c.args.calls.items c.calls.replies.items c.calls.mediator (run_ends (started c.args.limits) c.calls.mediator c.args.calls.items c.calls.replies.items (into_iter_items c.calls.call-iterator) (nil_from_length (into_iter_items c.calls.call-iterator) (omega (arith, c.in-None.ensures.steps.0))) c.calls.invariant.run) c.journal-for_proof.ensures.sound

pub returns-clause-front : goal.returns-clause-front
returns-clause-front c = handed_is_front c.args.limits c.args.calls.items c.calls.replies.items c.calls.mediator (run_ends (started c.args.limits) c.calls.mediator c.args.calls.items c.calls.replies.items (into_iter_items c.calls.call-iterator) (nil_from_length (into_iter_items c.calls.call-iterator) (omega (arith, c.in-None.ensures.steps.0))) c.calls.invariant.run) c.journal-for_proof.ensures.sound

pub returns-clause-audited : goal.returns-clause-audited
returns-clause-audited c = drained_is_audited c.args.limits c.args.calls.items c.calls.replies.items c.calls.mediator (run_ends (started c.args.limits) c.calls.mediator c.args.calls.items c.calls.replies.items (into_iter_items c.calls.call-iterator) (nil_from_length (into_iter_items c.calls.call-iterator) (omega (arith, c.in-None.ensures.steps.0))) c.calls.invariant.run)

pub returns-clause-secret : goal.returns-clause-secret
returns-clause-secret c = λ sub. built_from_disclosed sub c.args.limits c.args.calls.items c.calls.replies.items c.calls.mediator (run_ends (started c.args.limits) c.calls.mediator c.args.calls.items c.calls.replies.items (into_iter_items c.calls.call-iterator) (nil_from_length (into_iter_items c.calls.call-iterator) (omega (arith, c.in-None.ensures.steps.0))) c.calls.invariant.run)

pub calls-preserved : goal.calls-preserved
calls-preserved c = record {
  room = omega (arith, c.calls.invariant.room, ap length c.in-Some.ensures.steps.0, ap length c.push_reserved.ensures.items, length-append c.calls.replies.items (c.answer-reply.result ∷ []), c.push_reserved.ensures.capacity);
  run = run_goes_on (started c.args.limits) c.calls.mediator c.answer-reply.new.mediator c.args.calls.items (into_iter_items c.calls.call-iterator) (into_iter_items c.next.new.self) c.in-Some.call c.calls.replies.items c.push_reserved.new.self.items c.answer-reply.result
      c.in-Some.ensures.steps.0 c.push_reserved.ensures.items c.answer-reply.ensures c.calls.invariant.run;
}
