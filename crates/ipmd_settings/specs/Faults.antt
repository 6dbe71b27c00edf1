-- Which key of settings is at fault, said of each key alone.
use Rattle.std.specs.Prelude.{◌≡◌, ℕ, ◌<◌, ◌≤◌, Bool, not, List, [], ◌∷◌, length, Option, Some, None, is_some, find}
use Rattle.toml.specs.Data.{Members}
use Rattle.toml.specs.Parse.{parse_document}
use Rattle.ipfix_octets.specs.MessageFormat.{header_octets, longest_message}
use Rattle.subscriber_stream.specs.declared.limits.TheConstants.{MOST_QUEUE, MOST_SHAPES}
use Rattle.disclosure_audit.specs.declared.audit.TheConstants.{MOST_ENTRIES as MOST_AUDITED}
use Rattle.event_journal.specs.declared.limits.TheConstants.{MOST_ENTRIES, MOST_OCTETS}
use Rattle.ipmd_settings.specs.declared.key.Key.{Key}
use Rattle.ipmd_settings.specs.declared.key.Key.TheVariants.{Exporters, Admin, Policy, Connections, Target, Workers, Queue, Shapes, Audit, JournalEntries, JournalOctets, Turns, Deliver, Journal, Runs, Idle, Reconnect, Hold, Drain, Endless}
use Rattle.ipmd_settings.specs.declared.fault.Fault.{Fault}
use Rattle.ipmd_settings.specs.declared.fault.Fault.TheVariants as fault
use Rattle.ipmd_settings.specs.declared.reading.TheConstants.{LONGEST_TEXT}
use Rattle.ipmd_settings.specs.Values.{text_in, text_or_none_in, setting_number, number_or_in, number_or_none_in, flag_or_false_in, collectors_in}

-- whether a table has a value at a key that the key may have; those from Journal on may be absent too
abbrev pub has : Members → Key → Bool
has table Exporters = is_some (text_in Exporters table)
has table Admin = is_some (text_in Admin table)
has table Policy = is_some (text_in Policy table)
has table Connections = is_some (setting_number Connections 1 1000 table)
has table Target = is_some (setting_number Target header_octets longest_message table)
has table Workers = is_some (setting_number Workers 1 64 table)
has table Queue = is_some (setting_number Queue 1 MOST_QUEUE table)
has table Shapes = is_some (setting_number Shapes 1 MOST_SHAPES table)
has table Audit = is_some (setting_number Audit 1 MOST_AUDITED table)
has table JournalEntries = is_some (setting_number JournalEntries 1 MOST_ENTRIES table)
has table JournalOctets = is_some (setting_number JournalOctets 1 MOST_OCTETS table)
has table Turns = is_some (setting_number Turns 1 1000000000 table)
has table Deliver = is_some (collectors_in Deliver table)
has table Journal = is_some (text_or_none_in Journal table)
has table Runs = is_some (number_or_in Runs 1 1 1000 table)
has table Idle = is_some (number_or_none_in Idle 1 86400 table)
has table Reconnect = is_some (number_or_none_in Reconnect 1 3600 table)
has table Hold = is_some (number_or_none_in Hold 1 60000 table)
has table Drain = is_some (number_or_none_in Drain 1 86400 table)
has table Endless = is_some (flag_or_false_in Endless table)

-- the keys, in the order in which they are judged
abbrev pub keys : List Key
keys = Exporters ∷ Admin ∷ Policy ∷ Connections ∷ Target ∷ Workers ∷ Queue ∷ Shapes ∷ Audit ∷ JournalEntries ∷ JournalOctets ∷ Turns ∷ Deliver ∷ Journal ∷ Runs
    ∷ Idle ∷ Reconnect ∷ Hold ∷ Drain ∷ Endless ∷ []

-- the first key that a table lacks
abbrev pub lacking : Members → Option Key
lacking table = find (λ k. not (has table k)) keys

-- the text is too long; else no TOML, or a table that lacks this key and none before it; want of memory says only that it isn't too
-- long
abbrev pub IsSettingsFault : Fault → List ℕ → Type 0
IsSettingsFault fault.TooLong text = LONGEST_TEXT < length text
IsSettingsFault fault.Toml text = (length text ≤ LONGEST_TEXT) × (parse_document text ≡ None)
IsSettingsFault (fault.Key k) text = (table : Members) × (length text ≤ LONGEST_TEXT) × (parse_document text ≡ Some table) × (lacking table ≡ Some k)
IsSettingsFault fault.OutOfMemory text = length text ≤ LONGEST_TEXT
