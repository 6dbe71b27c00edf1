use Rattle.std.proofs.Common.{◌≡◌, []}
use Rattle.rtrb.specs.Ring.{sent, IsPair}
use Rattle.audit_behind.proofs.state.Behind.hand_over.Given as goal

abbrev pub invariant-loop : goal.invariant-loop
invariant-loop g l = record {
  same : sent l.self-inside.ring ≡ sent l.initial.self-inside.ring;
  thread : l.self-inside.thread ≡ l.initial.self-inside.thread;
  pair : IsPair l.self-inside.ring l.self-inside.thread.promise.ring.value;
  entries : l.entries ≡ l.initial.entries;
  gathered : l.self-inside.gathered.items ≡ [];
}
