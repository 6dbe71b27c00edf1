use Rattle.std.proofs.Common.{arith}
use Rattle.subscriber_stream.proofs.Standings.{announce_out, bring_out}
use Rattle.subscriber_stream.proofs.Handing.{few_out, records_out}
use Rattle.subscriber_stream.proofs.stream.Stream.hand_out_front.Goals as goal

pub overflow_add-self-in-Some-Bring : goal.overflow_add-self-in-Some-Bring
overflow_add-self-in-Some-Bring c =
    let few = few_out _ _ _ _ _ _ _ _ c.min-count.result _ c.self.invariant (rw c.in-Some-Bring.field-0-is at c.in-Some-Bring.ensures.items) (omega (arith, c.min-count.ensures, c.len.ensures)) in
    omega (arith, few, c.self.invariant.below)

pub overflow_cast-self : goal.overflow_cast-self
overflow_cast-self c =
    let few = few_out _ _ _ _ _ _ _ _ c.min-count.result _ c.self.invariant (rw c.in-Some-Bring.field-0-is at c.in-Some-Bring.ensures.items) (omega (arith, c.min-count.ensures, c.len.ensures)) in
    omega (arith, few, c.self.invariant.few_waiting)

pub overflow_sub-self : goal.overflow_sub-self
overflow_sub-self c =
    few_out _ _ _ _ _ _ _ _ c.min-count.result _ c.self.invariant (rw c.in-Some-Bring.field-0-is at c.in-Some-Bring.ensures.items) (omega (arith, c.min-count.ensures, c.len.ensures))

pub invariant_of-self-in-Some-Bring : goal.invariant_of-self-in-Some-Bring
invariant_of-self-in-Some-Bring c =
    rw (c.keep_rest.ensures.capacity, c.pop_front.ensures.capacity) (records_out _ _ _ _ _ _ _ _ _ c.min-count.result _ c.self.invariant (rw c.in-Some-Bring.field-0-is at c.in-Some-Bring.ensures.items) c.keep_rest.ensures.items (omega (arith, c.min-count.ensures, c.len.ensures)))

pub returns-in-Some-Announce-clause-handed : goal.returns-in-Some-Announce-clause-handed
returns-in-Some-Announce-clause-handed c =
    rw (← c.self.view_is) (announce_out _ _ _ _ _ _ _ _ _ (rw c.in-Some-Announce.field-0-is at c.in-Some-Announce.ensures.items))

pub returns-in-Some-Bring-clause-handed : goal.returns-in-Some-Bring-clause-handed
returns-in-Some-Bring-clause-handed c =
    rw (← c.self.view_is) (bring_out _ _ _ _ _ _ _ _ _ c.min-count.result _ (rw c.in-Some-Bring.field-0-is at c.in-Some-Bring.ensures.items) c.keep_rest.ensures.items (omega (arith, c.min-count.ensures, c.len.ensures)))
