use Rattle.std.proofs.Common.{◌+◌, ◌<◌, ◌^◌, ◌∙◌, ℕ, sym, ap, subst, refl, arith}
use Rattle.std.specs.Prelude.{slice_get, IfSome}
use Rattle.history_verify.specs.declared.count.SubscriptionCount.{SubscriptionCount}
use Rattle.history_verify.specs.Parts.{more_at}
use Rattle.history_verify.proofs.GivingLaws.{no_less, room_at, counted_one, counted_nobody}
use Rattle.history_verify.proofs.subscribers.Subscribers.give_one.Goals as goal

pub count_more-requires : goal.count_more-requires
count_more-requires c = record {
  room = subst (λ (n : ℕ). IfSome (slice_get c.args.self.now.begun.items c.in-Some.place) (λ (k : SubscriptionCount). k.disclosed + n < 2 ^ 64)) (sym c.len.ensures.value)
      (room_at c.args.self.now c.args.share.now c.in-Some.place c.requires.room (omega (arith, c.in-Some.ensures.0, c.in-Some.ensures.1)));
}

pub returns-in-Some : goal.returns-in-Some
returns-in-Some c =
    counted_one c.args.self.now _ c.args.share.now c.in-Some.place c.requires.room (omega (arith, c.in-Some.ensures.0, c.in-Some.ensures.1))
    (c.count_more.ensures ∙ ap (λ (n : ℕ). more_at c.in-Some.place n c.args.self.now.begun.items) c.len.ensures.value) refl refl

pub returns-in_default : goal.returns-in_default
returns-in_default c = counted_nobody c.args.self.now c.args.self.now c.args.share.now c.requires.room (no_less c.args.share.now.sub c.in_default.ensures) refl
