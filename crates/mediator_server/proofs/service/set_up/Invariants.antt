use Rattle.std.proofs.Common.{map, take}
use Rattle.std.specs.Prelude.{string_bytes}
use Rattle.mediator_server.proofs.SettingUp.{IsSettingUp, name_of}
use Rattle.mediator_server.proofs.service.set_up.Given as goal

abbrev pub invariant-collectors : goal.invariant-collectors
invariant-collectors g l = IsSettingUp (string_bytes l.fn.plan.policy) (map name_of (take l.collector-index l.plan.deliver.items)) l.admin
