-- Which texts are lists of calls, in the words of the format. A call is a line of words with one space between, numbers decimal without
-- leading zeros, octets hexadecimal of either case.
use Rattle.std.specs.Prelude.{◌≡◌, ◌⊎◌, ℕ, ◌-◌, ◌≤◌, true, false, List, [], ◌∷◌, length, take, codes, Ok}
use Rattle.std.specs.List.{AllByRecursion, join_with_byte}
use Rattle.std.specs.Prelude.{◌==◌}
use Rattle.std.specs.Fmt.{decimal}
use Rattle.hex.specs.Hex.{decode_of}
use Rattle.mediator_calls.specs.declared.limits.Limits.{Limits}
use Rattle.replay_text.specs.declared.fault.Fault.{Fault}
use Rattle.replay_text.specs.declared.fault.Fault.TheVariants.{Line, OutOfMemory}
use Rattle.replay_text.specs.LineEnds.{with_line_ends}
use Rattle.replay_text.specs.Lines.{greatest}
use Rattle.policy_text.specs.Words.{lines_of}
use Rattle.replay_text.specs.Lists.{AskedCalls, no_calls, default_limits, is_passed_over}
use Rattle.replay_text.specs.Sayings.{Saying}
use Rattle.replay_text.specs.Sayings.Saying.{to_open, to_close, to_receive, to_edit, to_subscribe, to_unsubscribe, to_advance, to_pull, to_tell_status, to_drain_audit}
use Rattle.policy_text.specs.Words.{Word}

-- words with one space (32) between
abbrev pub words_text : List Word → List ℕ
words_text words = join_with_byte 32 words

-- no space stands in a word
abbrev pub IsWord : List ℕ → Type 0
IsWord word = AllByRecursion (λ c. (c == 32) ≡ false) word

-- `close SESSION` and the like: a name, and a number from 0 to most
pub record IsNumberLine (name : Word) (most n : ℕ) (line : List ℕ) : Type 0 where
  pub bound : n ≤ most
  pub text : line ≡ words_text (name ∷ decimal n ∷ [])

-- `receive SESSION NUMBER HEX`; a message of no octets needs no third word
pub record IsReceiveLine (session number : ℕ) (octets line : List ℕ) : Type 0 where
  pub session_bound : session ≤ greatest 64
  pub number_bound : number ≤ greatest 64
  pub text :
      ((octets ≡ []) × (line ≡ words_text (codes "receive" ∷ decimal session ∷ decimal number ∷ [])))
      ⊎ ((digits : Word) × (decode_of digits ≡ Ok octets) × (line ≡ words_text (codes "receive" ∷ decimal session ∷ decimal number ∷ digits ∷ [])))

-- `edit TEXT`, to the end of the line
abbrev pub IsEditLine : List ℕ → List ℕ → Type 0
IsEditLine text line = (written : List ℕ) × (text ≡ with_line_ends written) × (line ≡ words_text (codes "edit" ∷ written ∷ []))

-- `subscribe WORD`; an empty name needs no word
abbrev pub IsSubscribeCall : List ℕ → List ℕ → Type 0
IsSubscribeCall name line = ((name ≡ []) × (line ≡ codes "subscribe")) ⊎ (IsWord name × (line ≡ words_text (codes "subscribe" ∷ name ∷ [])))

-- `pull SUB NOW TARGET`
pub record IsPullLine (sub now target : ℕ) (line : List ℕ) : Type 0 where
  pub sub_bound : sub ≤ greatest 64
  pub now_bound : now ≤ greatest 32
  pub target_bound : target ≤ greatest 16
  pub text : line ≡ words_text (codes "pull" ∷ decimal sub ∷ decimal now ∷ decimal target ∷ [])

-- the line asks for the call
abbrev pub IsLineOf : Saying → List ℕ → Type 0
IsLineOf to_open line = line ≡ codes "open"
IsLineOf (to_close session) line = IsNumberLine (codes "close") (greatest 64) session line
IsLineOf (to_receive session number octets) line = IsReceiveLine session number octets line
IsLineOf (to_edit text) line = IsEditLine text line
IsLineOf (to_subscribe name) line = IsSubscribeCall name line
IsLineOf (to_unsubscribe sub) line = IsNumberLine (codes "unsubscribe") (greatest 64) sub line
IsLineOf (to_advance t) line = IsNumberLine (codes "advance") (greatest 64) t line
IsLineOf (to_pull sub now target) line = IsPullLine sub now target line
IsLineOf (to_tell_status sub) line = IsNumberLine (codes "status") (greatest 64) sub line
IsLineOf (to_drain_audit most) line = IsNumberLine (codes "audit") (greatest 32) most line

-- `limits QUEUE SHAPES AUDIT ENTRIES OCTETS`
pub record SetsLimits (limits : Limits) (line : List ℕ) : Type 0 where
  pub queue_bound : limits.queue ≤ greatest 32
  pub shapes_bound : limits.shapes ≤ greatest 32
  pub audit_bound : limits.audit ≤ greatest 32
  pub entries_bound : limits.entries ≤ greatest 64
  pub octets_bound : limits.octets ≤ greatest 64
  pub text : line ≡ words_text (codes "limits" ∷ decimal limits.queue ∷ decimal limits.shapes ∷ decimal limits.audit ∷ decimal limits.entries ∷ decimal limits.octets ∷ [])

-- the lines ask for these calls, in their order; an empty line and one that begins with `#` ask for nothing
abbrev pub AreCalls : List (List ℕ) → List Saying → Type 0
AreCalls [] calls = calls ≡ []
AreCalls (line ∷ lines) [] = (is_passed_over line ≡ true) × AreCalls lines []
AreCalls (line ∷ lines) (said ∷ calls) = ((is_passed_over line ≡ true) × AreCalls lines (said ∷ calls)) ⊎ (IsLineOf said line × AreCalls lines calls)

-- the lines are a list of calls: the first that asks for something may set the limits
abbrev pub AreList : List (List ℕ) → AskedCalls → Type 0
AreList [] list = list ≡ no_calls
AreList (line ∷ lines) list =
    ((is_passed_over line ≡ true) × AreList lines list)
    ⊎ ((SetsLimits list.limits line × AreCalls lines list.calls)
    ⊎ ((list.limits ≡ default_limits) × AreCalls (line ∷ lines) list.calls))

-- the text is a list of these calls on a mediator with these limits
abbrev pub Lists : List ℕ → AskedCalls → Type 0
Lists text list = AreList (lines_of text) list

-- the first line that asks for nothing: the lines before it are a list of calls, and with it they are none
pub record IsFirstBadLine (text : List ℕ) (n : ℕ) : Type 0 where
  pub stands : 1 ≤ n
  pub within : n ≤ length (lines_of text)
  pub before : (list : AskedCalls) × AreList (take (n - 1) (lines_of text)) list
  pub bad : (list : AskedCalls) → AreList (take n (lines_of text)) list → ⊥

-- the fault is the text's first line that asks for nothing; want of memory says nothing
abbrev pub IsFaultOf : Fault → List ℕ → Type 0
IsFaultOf (Line n) text = IsFirstBadLine text n
IsFaultOf OutOfMemory text = Unit {0}
