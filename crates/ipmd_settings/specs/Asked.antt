-- What settings ask for, in texts and numbers.
use Rattle.std.specs.Prelude.{ℕ, Bool, List, map, Option, option_map, string_bytes, Vec}
use Rattle.std.specs.declared.alloc.Global.{Global}
use Rattle.mediator_calls.specs.declared.limits.Limits.{Limits}
use Rattle.mediator_connections.specs.declared.collector.Collector.{Collector}
use Rattle.ipmd_settings.specs.declared.settings.Settings.{Settings}

-- a subscriber's name, and the address of its collector
abbrev pub Pair : Type 0
Pair = List ℕ × List ℕ

pub record AskedService : Type 0 where
  pub exporters : List ℕ
  pub admin : List ℕ
  pub policy : List ℕ
  pub connections : ℕ
  pub target : ℕ
  pub workers : ℕ
  pub limits : Limits
  pub turns : ℕ
  pub collectors : List Pair
  pub journal : Option (List ℕ)
  pub runs : ℕ
  pub idle : Option ℕ
  pub reconnect : Option ℕ
  pub hold : Option ℕ
  pub drain : Option ℕ
  pub endless : Bool

abbrev pub pair : Collector → Pair
pair collector = (string_bytes collector.subscriber, string_bytes collector.address)

abbrev pub pairs : Vec Collector Global → List Pair
pairs collectors = map pair collectors.items

-- the same of settings that were read
abbrev pub asked_service : Settings → AskedService
asked_service settings = record {
  exporters = string_bytes settings.exporters;
  admin = string_bytes settings.admin;
  policy = string_bytes settings.policy;
  connections = settings.connections;
  target = settings.target;
  workers = settings.workers;
  limits = settings.limits;
  turns = settings.turns;
  collectors = pairs settings.collectors;
  journal = option_map string_bytes settings.journal;
  runs = settings.runs;
  idle = settings.idle;
  reconnect = settings.reconnect;
  hold = settings.hold;
  drain = settings.drain;
  endless = settings.endless;
}
