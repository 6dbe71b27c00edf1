-- What a text of calls asks for, line by line, or the first line that asks for nothing.
use Rattle.std.specs.Prelude.{◌≡◌, ℕ, ◌+◌, Bool, true, false, List, [], ◌∷◌, ◌++◌, map, Option, Some, None, Result, Ok, Err, if◌then◌else◌, ◌==◌}
use Rattle.sequences.specs.Options.{◌>>=◌}
use Rattle.policy_text.specs.Words.{lines_of}
use Rattle.subscriber_stream.specs.declared.limits.TheConstants.{MOST_SHAPES}
use Rattle.event_journal.specs.declared.limits.TheConstants.{MOST_ENTRIES, MOST_OCTETS}
use Rattle.mediator_calls.specs.declared.limits.Limits.{Limits}
use Rattle.replay_text.specs.declared.call_list.CallList.{CallList}
use Rattle.replay_text.specs.declared.fault.Fault.{Fault}
use Rattle.replay_text.specs.declared.fault.Fault.TheVariants.{Line, OutOfMemory}
use Rattle.replay_text.specs.Sayings.{Saying, saying}
use Rattle.replay_text.specs.Lines.{call_of, limits_on_line}
use Rattle.mediator_state.specs.declared.state.TheConstants.{DEFAULT_AUDIT, DEFAULT_QUEUE}

-- limits, and what calls say, in their order
pub record AskedCalls : Type 0 where
  pub limits : Limits
  pub calls : List Saying

-- the same of a list that was read
abbrev pub asked_calls : CallList → AskedCalls
asked_calls list = record { limits = list.limits; calls = map saying list.calls.items }

-- the limits of a list that sets none
abbrev pub default_limits : Limits
default_limits = record { queue = DEFAULT_QUEUE; shapes = MOST_SHAPES; audit = DEFAULT_AUDIT; entries = MOST_ENTRIES; octets = MOST_OCTETS }

-- no call and no limits yet
abbrev pub no_calls : AskedCalls
no_calls = record { limits = default_limits; calls = [] }

-- an empty line, or one that begins with `#` (35)
abbrev pub is_passed_over : List ℕ → Bool
is_passed_over [] = true
is_passed_over (c ∷ cs) = c == 35

abbrev pub with_call : AskedCalls → Saying → AskedCalls
with_call list said = record { limits = list.limits; calls = list.calls ++ said ∷ [] }

abbrev pub with_limits : AskedCalls → Limits → AskedCalls
with_limits list limits = record { limits = limits; calls = list.calls }

-- the list with the call of a line behind it
unfoldable pub call_step : AskedCalls → List ℕ → Option AskedCalls
call_step list line = call_of line >>= λ said. Some (with_call list said)

-- the list after its first line, which may set the limits
abbrev pub first_step : AskedCalls → List ℕ → Option Limits → Option AskedCalls
first_step list line None = call_step list line
first_step list line (Some limits) = Some (with_limits list limits)

-- the list after a line that isn't skipped, of which the first is read otherwise
unfoldable pub list_after : Bool → AskedCalls → List ℕ → Option AskedCalls
list_after false list line = first_step list line (limits_on_line line)
list_after true list line = call_step list line

-- the same of a line that may be skipped, and whether a line was read by then
unfoldable pub list_after_line : Bool → AskedCalls → List ℕ → Option (Bool × AskedCalls)
list_after_line started list line = if is_passed_over line then Some (started, list) else (list_after started list line >>= λ more. Some (true, more))

-- with what was read go on, or name the line that asks for nothing
abbrev pub or_line : ℕ → Option AskedCalls → (AskedCalls → Result AskedCalls ℕ) → Result AskedCalls ℕ
or_line n None go = Err n
or_line n (Some list) go = go list

-- the list after these lines, of which the first has number n; started says whether a line was read before
unfoldable pub calls_of_lines : Bool → AskedCalls → ℕ → List (List ℕ) → Result AskedCalls ℕ
calls_of_lines started list n [] = Ok list
calls_of_lines started list n (line ∷ others) =
    if is_passed_over line then calls_of_lines started list (n + 1) others
    else or_line n (list_after started list line) (λ more. calls_of_lines true more (n + 1) others)

-- what a text asks for, or the number of its first line that asks for nothing, from 1
unfoldable pub calls_of_text : List ℕ → Result AskedCalls ℕ
calls_of_text text = calls_of_lines false no_calls 1 (lines_of text)

-- what a reader answered is what the text asks for, or its first line that asks for nothing; want of memory says nothing
abbrev pub Reads : Result CallList Fault → Result AskedCalls ℕ → Type 0
Reads (Ok list) read = read ≡ Ok (asked_calls list)
Reads (Err (Line n)) read = read ≡ Err n
Reads (Err OutOfMemory) read = Unit {0}
