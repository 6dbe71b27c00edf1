-- Which call a line of a list asks for: a word that names it, and its arguments, parted by one space.
use Rattle.std.specs.Prelude.{ℕ, ◌^◌, ◌-◌, List, Option, Some, None, if◌then◌else◌, codes}
use Rattle.std.specs.Result.{result_ok}
use Rattle.std.specs.Str.{bytes_eq}
use Rattle.hex.specs.Hex.{decode_of}
use Rattle.sequences.specs.Options.{◌>>=◌}
use Rattle.mediator_calls.specs.declared.limits.Limits.{Limits}
use Rattle.replay_text.specs.declared.verb.Verb.{Verb}
use Rattle.replay_text.specs.declared.verb.Verb.TheVariants as verb
use Rattle.replay_text.specs.LineEnds.{with_line_ends}
use Rattle.replay_text.specs.Sayings.{Saying}
use Rattle.replay_text.specs.Sayings.Saying.{to_open, to_close, to_receive, to_edit, to_subscribe, to_unsubscribe, to_advance, to_pull, to_tell_status, to_drain_audit}
use Rattle.policy_text.specs.Words.{Word}
use Rattle.replay_text.specs.Words.{Left, next_word, next_number, last_number, last_word, end_of_line}

-- the greatest number of so many bits
abbrev pub greatest : ℕ → ℕ
greatest bits = 2 ^ bits - 1

-- the call that a word names
unfoldable pub verb_of : Word → Option Verb
verb_of word =
    if bytes_eq word (codes "open") then Some verb.Open
    else if bytes_eq word (codes "close") then Some verb.Close
    else if bytes_eq word (codes "receive") then Some verb.Receive
    else if bytes_eq word (codes "edit") then Some verb.Edit
    else if bytes_eq word (codes "subscribe") then Some verb.Subscribe
    else if bytes_eq word (codes "unsubscribe") then Some verb.Unsubscribe
    else if bytes_eq word (codes "advance") then Some verb.Advance
    else if bytes_eq word (codes "pull") then Some verb.Pull
    else if bytes_eq word (codes "status") then Some verb.Status
    else if bytes_eq word (codes "audit") then Some verb.Audit
    else None

-- `receive SESSION NUMBER HEX`, in which no octets need no word
unfoldable pub receive_behind : Left → Option Saying
receive_behind left = do
  session ← next_number (greatest 64) left
  number ← next_number (greatest 64) session.1
  digits ← last_word number.1
  octets ← result_ok (decode_of digits)
  Some (to_receive session.0 number.0 octets)

-- `edit TEXT`, to the end of the line
unfoldable pub edit_behind : Left → Option Saying
edit_behind left = do
  text ← left
  Some (to_edit (with_line_ends text))

-- `pull SUB NOW TARGET`
unfoldable pub pull_behind : Left → Option Saying
pull_behind left = do
  sub ← next_number (greatest 64) left
  now ← next_number (greatest 32) sub.1
  target ← last_number (greatest 16) now.1
  Some (to_pull sub.0 now.0 target)

-- a call by the word that names it, with what stands behind that word
unfoldable pub call_by : Verb → Left → Option Saying
call_by verb.Open left = end_of_line left >>= λ done. Some to_open
call_by verb.Close left = last_number (greatest 64) left >>= λ session. Some (to_close session)
call_by verb.Receive left = receive_behind left
call_by verb.Edit left = edit_behind left
call_by verb.Subscribe left = last_word left >>= λ name. Some (to_subscribe name)
call_by verb.Unsubscribe left = last_number (greatest 64) left >>= λ sub. Some (to_unsubscribe sub)
call_by verb.Advance left = last_number (greatest 64) left >>= λ t. Some (to_advance t)
call_by verb.Pull left = pull_behind left
call_by verb.Status left = last_number (greatest 64) left >>= λ sub. Some (to_tell_status sub)
call_by verb.Audit left = last_number (greatest 32) left >>= λ most. Some (to_drain_audit most)

unfoldable pub call_of : List ℕ → Option Saying
call_of line = do
  word ← next_word (Some line)
  verb ← verb_of word.0
  call_by verb word.1

-- behind `limits`: QUEUE SHAPES AUDIT ENTRIES OCTETS
unfoldable pub limits_behind : Left → Option Limits
limits_behind left = do
  queue ← next_number (greatest 32) left
  shapes ← next_number (greatest 32) queue.1
  audit ← next_number (greatest 32) shapes.1
  entries ← next_number (greatest 64) audit.1
  octets ← last_number (greatest 64) entries.1
  Some (record { queue = queue.0; shapes = shapes.0; audit = audit.0; entries = entries.0; octets = octets })

-- the limits that a line sets
unfoldable pub limits_on_line : List ℕ → Option Limits
limits_on_line line = do
  word ← next_word (Some line)
  if bytes_eq word.0 (codes "limits") then limits_behind word.1 else None
