use Rattle.std.proofs.Common.{◌≡◌, take}
use Rattle.prepared_message.proofs.ahead.are_same.Given as goal

abbrev pub invariant-runs : goal.invariant-runs
invariant-runs l = take l.place l.some ≡ take l.place l.others
