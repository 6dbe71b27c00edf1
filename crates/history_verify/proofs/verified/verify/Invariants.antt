use Rattle.std.specs.Prelude.{◌≡◌, true, take}
use Rattle.history_verify.specs.Standing.{IsFed, keeps_audit}
use Rattle.history_verify.proofs.verified.verify.Given as goal

abbrev pub invariant-entries : goal.invariant-entries
invariant-entries l = record {
  fed : IsFed l.verifier (take l.position l.journal.entries);
  wanted : keeps_audit l.verifier ≡ true;
}
