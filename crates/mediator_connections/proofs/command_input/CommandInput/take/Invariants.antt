use Rattle.std.proofs.Common.{◌≡◌, false, length}
use Rattle.mediator_connections.specs.CommandInput.{HandsOutOctets}
use Rattle.mediator_connections.proofs.command_input.CommandInput.take.Given as goal

abbrev pub invariant-octets : goal.invariant-octets
invariant-octets g l =
    HandsOutOctets l.fn.self (g.R.Source.remaining l.fn.reader) (g.R.Source.remaining l.reader) l.text.items l.self
    × (length l.text.items ≡ l.counter) × (g.R.Source.has_failed l.reader ≡ false)
