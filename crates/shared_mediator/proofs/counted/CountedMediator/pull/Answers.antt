use Rattle.std.proofs.Common.{◌-◌, arith}
use Rattle.shared_mediator.specs.Counted.{with_counts}
use Rattle.shared_mediator.specs.Handing.{HasCountRoom}
use Rattle.shared_mediator.proofs.Pulling.{Tells, tells, counted_after, has_count_room, hands_some, hands_none}
use Rattle.mediator_calls.proofs.CallLaws.{if_ok_at}
use Rattle.shared_mediator.proofs.counted.CountedMediator.pull.Goals.{in-Some, in-None}
use Rattle.shared_mediator.proofs.counted.CountedMediator.pull.Goals as goal

pub overflow_sub-records : goal.overflow_sub-records
overflow_sub-records c = omega (arith, (tells c.self.inside.mediator c.pull_pieces.new.self c.args.sub.0 c.args.now c.args.target c.in-Ok-pull_pieces.message c.in-Ok.before c.in-Ok-status.after c.in-Ok.ensures.ok c.in-Ok-pull_pieces.ensures.ok c.in-Ok-status.ensures.ok).records)

pub overflow_add-self : goal.overflow_add-self
overflow_add-self c =
    let told : Tells c.self.inside.mediator c.args.sub.0 c.args.target c.in-Ok.before c.in-Ok-status.after = tells c.self.inside.mediator c.pull_pieces.new.self c.args.sub.0 c.args.now c.args.target c.in-Ok-pull_pieces.message c.in-Ok.before c.in-Ok-status.after c.in-Ok.ensures.ok c.in-Ok-pull_pieces.ensures.ok c.in-Ok-status.ensures.ok in
    omega (arith, told.records, told.wait)

pub invariant_of-self-2 : goal.invariant_of-self-2
invariant_of-self-2 c =
    let told : Tells c.self.inside.mediator c.args.sub.0 c.args.target c.in-Ok.before c.in-Ok-status.after = tells c.self.inside.mediator c.pull_pieces.new.self c.args.sub.0 c.args.now c.args.target c.in-Ok-pull_pieces.message c.in-Ok.before c.in-Ok-status.after c.in-Ok.ensures.ok c.in-Ok-pull_pieces.ensures.ok c.in-Ok-status.ensures.ok in
    counted_after c.self.inside.mediator c.pull_pieces.new.self c.self.inside.from c.self.inside.gone c.self.inside.handed (c.in-Ok-status.after.handed - c.in-Ok.before.handed) c.args.sub.0 c.args.now c.args.target c.in-Ok-pull_pieces.message c.journal-for_proof.ensures.sound c.self.invariant c.in-Ok-pull_pieces.ensures.ok (omega (arith, told.records))

pub returns-clause-ok : goal.returns-clause-ok
returns-clause-ok c =
    let told : Tells c.self.inside.mediator c.args.sub.0 c.args.target c.in-Ok.before c.in-Ok-status.after = tells c.self.inside.mediator c.pull_pieces.new.self c.args.sub.0 c.args.now c.args.target c.in-Ok-pull_pieces.message c.in-Ok.before c.in-Ok-status.after c.in-Ok.ensures.ok c.in-Ok-pull_pieces.ensures.ok c.in-Ok-status.ensures.ok in
    let room : HasCountRoom (with_counts c.self.inside.mediator c.self.inside.from c.self.inside.gone) c.args.sub.0 =
    has_count_room c.self.inside.mediator c.self.inside.from c.self.inside.gone c.self.inside.handed c.args.sub.0 c.in-Ok.before.queued c.self.invariant c.in-Ok.ensures.ok.queued (omega (arith, c.if-before-self.false)) in
    elim c.match-message-2.branch [
      | in-Some w ↦ if_ok_at _ c.match-message-2.result _ w.result-is
          (hands_some c.self.inside.mediator c.pull_pieces.new.self c.self.inside.from c.self.inside.gone c.args.sub.0 c.args.now c.args.target c.args.self.now c.in-Ok-pull_pieces.message (record { message = w.in-Some.message; records = c.in-Ok-status.after.handed - c.in-Ok.before.handed })
          c.self.view_is c.journal-for_proof.ensures.sound room c.in-Ok-pull_pieces.ensures.ok w.in-Some.is (omega (arith, told.records)))
      | in-None w ↦ if_ok_at _ c.match-message-2.result _ w.result-is
          (hands_none c.self.inside.mediator c.pull_pieces.new.self c.self.inside.from c.self.inside.gone c.args.sub.0 c.args.now c.args.target c.args.self.now c.in-Ok-pull_pieces.message c.self.view_is c.journal-for_proof.ensures.sound room c.in-Ok-pull_pieces.ensures.ok w.in-None.is)
    ]
