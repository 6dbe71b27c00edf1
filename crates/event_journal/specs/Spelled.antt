-- Which entries a journal file can spell, by this project's own rule.
use Rattle.std.specs.Prelude.{◌<◌, ◌^◌, length}
use Rattle.event_journal.specs.declared.entry.Entry.{Entry}
use Rattle.event_journal.specs.declared.entry.Entry.TheVariants.{Open, Close, Message, Edit, Subscribe, Unsubscribe, Advance, Cut}

-- The length of a message has 4 octets. All else fits by the types of the code: numbers and the length of a text have 8 octets,
-- the length of a name has one, a name is at most 32 octets long, and a text is UTF-8.
abbrev pub IsSpelled : Entry → Type 0
IsSpelled (Open session) = Unit {0}
IsSpelled (Close session) = Unit {0}
IsSpelled (Message session number octets) = length octets < 2 ^ 32
IsSpelled (Edit text) = Unit {0}
IsSpelled (Subscribe sub name) = Unit {0}
IsSpelled (Unsubscribe sub) = Unit {0}
IsSpelled (Advance t) = Unit {0}
IsSpelled (Cut sub) = Unit {0}
