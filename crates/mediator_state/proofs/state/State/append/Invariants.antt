use Rattle.std.proofs.Common.{◌≡◌, ◌≤◌, List, ◌++◌, length}
use Rattle.std.specs.Vec.Iter.{into_iter_items}
use Rattle.event_journal.specs.declared.entry.Entry.{Entry}
use Rattle.event_journal.specs.Room.{HasRoom}
use Rattle.mediator_state.proofs.state.State.append.Given as goal

abbrev pub invariant-entries : goal.invariant-entries
invariant-entries g l = record {
  room : HasRoom (g.C.Chronicle.limits l.self.chronicle) (g.C.Chronicle.count l.self.chronicle) (g.C.Chronicle.octets l.self.chronicle) (into_iter_items l.entry-iterator);
  reserved : length (into_iter_items l.entry-iterator) ≤ g.C.Chronicle.spare l.self.chronicle;
  whole : l.yielded ++ into_iter_items l.entry-iterator ≡ l.fn.entries.items;
  tells : (h : List Entry) → g.C.Chronicle.tells l.fn.self.chronicle h → g.C.Chronicle.tells l.self.chronicle (h ++ l.yielded);
  engine : l.self.engine ≡ l.fn.self.engine;
  limits : g.C.Chronicle.limits l.self.chronicle ≡ g.C.Chronicle.limits l.fn.self.chronicle;
}
