use Rattle.std.proofs.Common.{◌≡◌}
use Rattle.toml.specs.View.{members_view}
use Rattle.ipmd_settings.specs.Asked.{pairs}
use Rattle.ipmd_settings.specs.Values.{collectors_of}
use Rattle.ipmd_settings.proofs.CollectorLaws.{behind}
use Rattle.ipmd_settings.proofs.values.collectors_in.Given as goal

abbrev pub invariant-addresses : goal.invariant-addresses
invariant-addresses l = record {
  reading : behind (pairs l.collectors) (collectors_of (members_view l.subscriber-iterator)) ≡ collectors_of (members_view l.fn.addresses.entries);
}
