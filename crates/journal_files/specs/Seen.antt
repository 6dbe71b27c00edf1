-- What functions that read the front of octets return, as contracts see it.
use Rattle.std.specs.Prelude.{ℕ, List}
use Rattle.std.specs.Borrow.{Bor}
use Rattle.event_journal.specs.declared.entry.Entry.{Entry}

abbrev pub octets_seen : Bor (List ℕ) × Bor (List ℕ) → List ℕ × List ℕ
octets_seen found = (found.0.now, found.1.now)

abbrev pub number_seen : ℕ × Bor (List ℕ) → ℕ × List ℕ
number_seen found = (found.0, found.1.now)

abbrev pub entry_seen : Entry × Bor (List ℕ) → Entry × List ℕ
entry_seen found = (found.0, found.1.now)
