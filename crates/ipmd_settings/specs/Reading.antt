-- What a text of settings asks for, or its first fault.
use Rattle.std.specs.Prelude.{ℕ, List, length, Option, Some, None, Result, Ok, Err, nat_lt, if◌then◌else◌}
use Rattle.toml.specs.Data.{Members}
use Rattle.toml.specs.Parse.{parse_document}
use Rattle.sequences.specs.Results.{◌>>=◌}
use Rattle.ipfix_octets.specs.MessageFormat.{header_octets, longest_message}
use Rattle.subscriber_stream.specs.declared.limits.TheConstants.{MOST_QUEUE, MOST_SHAPES}
use Rattle.disclosure_audit.specs.declared.audit.TheConstants.{MOST_ENTRIES as MOST_AUDITED}
use Rattle.event_journal.specs.declared.limits.TheConstants.{MOST_ENTRIES, MOST_OCTETS}
use Rattle.mediator_calls.specs.declared.limits.Limits.{Limits}
use Rattle.ipmd_settings.specs.declared.key.Key.TheVariants.{Exporters, Admin, Policy, Connections, Target, Workers, Queue, Shapes, Audit, JournalEntries, JournalOctets, Turns, Journal, Runs, Idle, Reconnect, Hold, Drain, Endless}
use Rattle.ipmd_settings.specs.declared.fault.Fault.{Fault}
use Rattle.ipmd_settings.specs.declared.fault.Fault.TheVariants.{TooLong, Toml}
use Rattle.ipmd_settings.specs.declared.reading.TheConstants.{LONGEST_TEXT}
use Rattle.ipmd_settings.specs.Asked.{AskedService}
use Rattle.ipmd_settings.specs.Values.{text_at, text_or_none, integer_at, number_or, number_or_none, flag_or_false, collectors_at}

-- the limits of the mediator
unfoldable pub limits_in : Members → Result Limits Fault
limits_in table = do
  queue ← integer_at Queue 1 MOST_QUEUE table
  shapes ← integer_at Shapes 1 MOST_SHAPES table
  audit ← integer_at Audit 1 MOST_AUDITED table
  entries ← integer_at JournalEntries 1 MOST_ENTRIES table
  octets ← integer_at JournalOctets 1 MOST_OCTETS table
  Ok (record { queue = queue; shapes = shapes; audit = audit; entries = entries; octets = octets })

-- the settings in a table, or the first key at fault; other keys are ignored
unfoldable pub settings_in : Members → Result AskedService Fault
settings_in table = do
  exporters ← text_at Exporters table
  admin ← text_at Admin table
  policy ← text_at Policy table
  connections ← integer_at Connections 1 1000 table
  target ← integer_at Target header_octets longest_message table
  workers ← integer_at Workers 1 64 table
  limits ← limits_in table
  turns ← integer_at Turns 1 1000000000 table
  collectors ← collectors_at table
  journal ← text_or_none Journal table
  runs ← number_or Runs 1 1 1000 table
  idle ← number_or_none Idle 1 86400 table
  reconnect ← number_or_none Reconnect 1 3600 table
  hold ← number_or_none Hold 1 60000 table
  drain ← number_or_none Drain 1 86400 table
  endless ← flag_or_false Endless table
  Ok (record {
    exporters = exporters;
    admin = admin;
    policy = policy;
    connections = connections;
    target = target;
    workers = workers;
    limits = limits;
    turns = turns;
    collectors = collectors;
    journal = journal;
    runs = runs;
    idle = idle;
    reconnect = reconnect;
    hold = hold;
    drain = drain;
    endless = endless;
  })

-- the table that a text is
abbrev pub table_of : Option Members → Result Members Fault
table_of None = Err Toml
table_of (Some table) = Ok table

-- the settings that a text gives, or its first fault
abbrev pub settings_of : List ℕ → Result AskedService Fault
settings_of text = if nat_lt LONGEST_TEXT (length text) then Err TooLong else (table_of (parse_document text) >>= settings_in)
