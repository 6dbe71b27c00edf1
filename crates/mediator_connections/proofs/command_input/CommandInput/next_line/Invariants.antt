use Rattle.std.proofs.Common.{◌≡◌, ◌≢◌, ◌-◌, false, length}
use Rattle.std.specs.List.{AllByRecursion}
use Rattle.mediator_connections.specs.CommandInput.{HandsOutOctets}
use Rattle.mediator_connections.proofs.command_input.CommandInput.next_line.Given as goal

abbrev pub invariant-octets : goal.invariant-octets
invariant-octets g l =
    HandsOutOctets l.fn.self (g.R.Source.remaining l.fn.reader) (g.R.Source.remaining l.reader) l.line.items l.self
    × AllByRecursion (λ c. c ≢ 10) l.line.items × (g.R.Source.has_failed l.reader ≡ false)

abbrev pub decreases-octets : goal.decreases-octets
decreases-octets g l = 1025 - length l.line.items
