-- The keys as the settings have them, and what is said of a fault.
use Rattle.std.specs.Prelude.{ℕ, List, codes}
use Rattle.ipmd_settings.specs.declared.key.Key.{Key}
use Rattle.ipmd_settings.specs.declared.key.Key.TheVariants as key
use Rattle.ipmd_settings.specs.declared.fault.Fault.{Fault}
use Rattle.ipmd_settings.specs.declared.fault.Fault.TheVariants as fault

abbrev pub key_name : Key → List ℕ
key_name key.Exporters = codes "exporters"
key_name key.Admin = codes "admin"
key_name key.Policy = codes "policy"
key_name key.Connections = codes "connections"
key_name key.Target = codes "target"
key_name key.Workers = codes "workers"
key_name key.Queue = codes "queue"
key_name key.Shapes = codes "shapes"
key_name key.Audit = codes "audit"
key_name key.JournalEntries = codes "journal_entries"
key_name key.JournalOctets = codes "journal_octets"
key_name key.Turns = codes "turns"
key_name key.Deliver = codes "deliver"
key_name key.Journal = codes "journal"
key_name key.Runs = codes "runs"
key_name key.Idle = codes "idle"
key_name key.Reconnect = codes "reconnect"
key_name key.Hold = codes "hold"
key_name key.Drain = codes "drain"
key_name key.Endless = codes "endless"

abbrev pub settings_fault_text : Fault → List ℕ
settings_fault_text fault.TooLong = codes "length"
settings_fault_text fault.Toml = codes "toml"
settings_fault_text (fault.Key k) = key_name k
settings_fault_text fault.OutOfMemory = codes "OutOfMemory"
