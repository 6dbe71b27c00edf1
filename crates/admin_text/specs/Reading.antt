-- Which command a line is read as: the first space (32) parts the name of the command from its argument, if there is one.
use Rattle.std.specs.Prelude.{◌≡◌, ℕ, Bool, not, ◌&&◌, ◌==◌, List, length, Option, Some, None, nat_lt, if◌then◌else◌, codes}
use Rattle.std.specs.List.{list_all}
use Rattle.std.specs.Str.{bytes_eq}
use Rattle.sequences.specs.Options.{◌>>=◌}
use Rattle.numerals.specs.Numerals.{number_of}
use Rattle.flow_prefix.specs.Reading.{cut_at}
use Rattle.replay_text.specs.Lines.{greatest}
use Rattle.admin_text.specs.Grammar.{longest_line, longest_policy, most_audit_entries}
use Rattle.admin_text.specs.Sayings.{AdminSaying}
use Rattle.admin_text.specs.Sayings.AdminSaying.{to_edit, to_subscribe, to_unsubscribe, to_advance, to_tell_status, to_drain_audit, to_tell, to_stop}
use Rattle.admin_text.specs.declared.command.Topic.TheVariants as topic

-- some octets, none of them a space
abbrev pub is_one_word : List ℕ → Bool
is_one_word argument = nat_lt 0 (length argument) && list_all (λ c. not (c == 32)) argument

-- ---- by the argument of each command

unfoldable pub asks_edit : List ℕ → Option AdminSaying
asks_edit argument = number_of longest_policy argument >>= λ octets. Some (to_edit octets)

unfoldable pub asks_subscribe : List ℕ → Option AdminSaying
asks_subscribe argument = if is_one_word argument then Some (to_subscribe argument) else None

unfoldable pub asks_unsubscribe : List ℕ → Option AdminSaying
asks_unsubscribe argument = number_of (greatest 64) argument >>= λ sub. Some (to_unsubscribe sub)

unfoldable pub asks_advance : List ℕ → Option AdminSaying
asks_advance argument = number_of (greatest 64) argument >>= λ t. Some (to_advance t)

unfoldable pub asks_status : List ℕ → Option AdminSaying
asks_status argument = number_of (greatest 64) argument >>= λ sub. Some (to_tell_status sub)

-- none is not asked for
abbrev pub some_entries : ℕ → Option AdminSaying
some_entries most = if most == 0 then None else Some (to_drain_audit most)

unfoldable pub asks_audit : List ℕ → Option AdminSaying
asks_audit argument = number_of most_audit_entries argument >>= λ most. some_entries most

-- ---- a line

-- by the name of the command
unfoldable pub command_by : List ℕ → List ℕ → Option AdminSaying
command_by word argument =
    if bytes_eq word (codes "edit") then asks_edit argument
    else if bytes_eq word (codes "subscribe") then asks_subscribe argument
    else if bytes_eq word (codes "unsubscribe") then asks_unsubscribe argument
    else if bytes_eq word (codes "advance") then asks_advance argument
    else if bytes_eq word (codes "status") then asks_status argument
    else if bytes_eq word (codes "audit") then asks_audit argument
    else None

-- by the one word of a line that has no space
unfoldable pub command_alone : List ℕ → Option AdminSaying
command_alone word =
    if bytes_eq word (codes "status") then Some (to_tell topic.Subscriptions)
    else if bytes_eq word (codes "run") then Some (to_tell topic.Run)
    else if bytes_eq word (codes "policy") then Some (to_tell topic.Policy)
    else if bytes_eq word (codes "help") then Some (to_tell topic.Help)
    else if bytes_eq word (codes "stop") then Some to_stop
    else None

-- by what the first space parts, if there is one
abbrev pub command_in : List ℕ → Option (List ℕ × List ℕ) → Option AdminSaying
command_in line None = command_alone line
command_in line (Some words) = command_by words.0 words.1

unfoldable pub command_of : List ℕ → Option AdminSaying
command_of line = if nat_lt longest_line (length line) then None else command_in line (cut_at 32 line)

-- what is asked for has a name
abbrev pub NamesSubscriber : Option AdminSaying → Type 0
NamesSubscriber read = (name : List ℕ) × (read ≡ Some (to_subscribe name))
