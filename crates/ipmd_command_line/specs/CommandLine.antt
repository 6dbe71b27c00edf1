-- The command line: what may be asked for, and what the words after the program's name ask for. How words are read where these
-- are the commands and their options is clap's.
use Rattle.std.specs.Prelude.{◌≡◌, ◌⊎◌, ◌^◌, ◌-◌, ◌<◌, ℕ, Bool, true, false, List, [], ◌∷◌, Option, Some, None, option_map, codes, pos}
use Rattle.std.specs.Str.Parse.{IsNumeral, digits_value, without_leading_plus}
use Rattle.clap.specs.Words.{App, Row, Rule, Text, IsAmong, fault_of, first_of, kind_of, new_app, new_rule, one_of, subcommand_of, with_rule, with_subcommand}
use Rattle.clap.specs.declared.builder.action.ArgAction.TheVariants.{SetTrue}
use Rattle.clap.specs.declared.builder.value_parser.ValueParser.TheVariants.{Signed, Unsigned}
use Rattle.clap.specs.declared.error.kind.ErrorKind.{ErrorKind}
use Rattle.clap.specs.declared.error.kind.ErrorKind.TheVariants.{DisplayHelp, DisplayVersion}
use Rattle.ipmd_command_line.specs.declared.task.OfflineOptions.{OfflineOptions}
use Rattle.ipmd_command_line.specs.declared.task.ReplayOptions.{ReplayOptions}
use Rattle.ipmd_command_line.specs.declared.task.VerifyOptions.{VerifyOptions}
use Rattle.ipmd_command_line.specs.declared.task.ExplainOptions.{ExplainOptions}
use Rattle.ipmd_command_line.specs.declared.task.Task.{Task}
use Rattle.ipmd_command_line.specs.declared.task.Task.TheVariants.{Offline, CheckPolicy, Replay, Serve, Verify, Explain, Show}
use Rattle.ipmd_command_line.specs.declared.fault.Fault.{Fault}
use Rattle.ipmd_command_line.specs.declared.fault.Fault.TheVariants.{Refused, OutOfMemory}
use Rattle.ipmd_command_line.specs.declared.task.PolicySource.{PolicySource}
use Rattle.ipmd_command_line.specs.declared.task.PolicySource.TheVariants.{File, Text as PolicyText}

-- ---- the commands

-- an option with a value
abbrev pub valued_option : Text → Rule
valued_option name = record (new_rule name) { long = Some name; value_names = 1 }

-- an option that must be given
abbrev pub needed_option : Text → Rule
needed_option name = record (valued_option name) { required = true }

-- an option whose value is a number of at most so much, and is this where it isn't given
abbrev pub number : Text → Text → ℕ → Rule
number name default most = record (valued_option name) { defaults = default ∷ []; parser = Some (Signed (pos 0) (pos most)) }

-- the greatest numbers that 64, 32 and 16 bits hold
abbrev pub greatest_of_64_bits : ℕ
greatest_of_64_bits = 2 ^ 64 - 1

abbrev pub greatest_of_32_bits : ℕ
greatest_of_32_bits = 2 ^ 32 - 1

abbrev pub greatest_of_16_bits : ℕ
greatest_of_16_bits = 2 ^ 16 - 1

-- an option whose value is a number of at most 2^64 - 1, and one whose is at most so much
abbrev pub long_number : Text → Rule
long_number name = record (valued_option name) { parser = Some (Unsigned 0 greatest_of_64_bits) }

abbrev pub short_number : Text → ℕ → Rule
short_number name most = record (valued_option name) { parser = Some (Signed (pos 0) (pos most)) }

-- an option without a value
abbrev pub flag : Text → Rule
flag name = record (new_rule name) { long = Some name; action = Some SetTrue }

-- a command with the two options of which one names the policy
abbrev pub with_policy : App → App
with_policy app = with_rule (with_rule app (valued_option (codes "policy"))) (valued_option (codes "policy-text"))

abbrev pub offline_command : App
offline_command =
    with_rule (with_rule (with_rule (with_rule (with_rule (with_policy (new_app (codes "offline")))
    (needed_option (codes "subscriber"))) (number (codes "now") (codes "0") greatest_of_32_bits)) (number (codes "target") (codes "1400") greatest_of_16_bits)) (valued_option (codes "audit"))) (flag (codes "hex"))

abbrev pub check_policy_command : App
check_policy_command = with_policy (new_app (codes "check-policy"))

abbrev pub replay_command : App
replay_command = with_rule (with_rule (new_app (codes "replay")) (needed_option (codes "calls"))) (valued_option (codes "journal"))

abbrev pub serve_command : App
serve_command = with_rule (new_app (codes "serve")) (needed_option (codes "settings"))

abbrev pub verify_command : App
verify_command = with_rule (with_rule (new_app (codes "verify")) (needed_option (codes "journal"))) (flag (codes "quiet"))

abbrev pub explain_command : App
explain_command =
    with_rule (with_rule (with_rule (with_rule (new_app (codes "explain"))
    (needed_option (codes "journal"))) (record (long_number (codes "sub")) { required = true })) (long_number (codes "position"))) (short_number (codes "index") greatest_of_32_bits)

-- the words begin after the program's name
abbrev pub top_command : App
top_command = record (new_app (codes "ipmd")) { top = record (new_app (codes "ipmd")).top { no_binary_name = true; has_version = true; subcommand_required = true } }

abbrev pub ipmd_command : App
ipmd_command =
    with_subcommand (with_subcommand (with_subcommand (with_subcommand (with_subcommand (with_subcommand top_command
    offline_command.top) check_policy_command.top) replay_command.top) serve_command.top) verify_command.top) explain_command.top

-- ---- what is asked for

-- exactly one of the two options names the policy
abbrev pub IsSource : PolicySource → List Row → Type 0
IsSource (File path) rows = (first_of (codes "policy") rows ≡ Some path.now) × (first_of (codes "policy-text") rows ≡ None)
IsSource (PolicyText text) rows = (first_of (codes "policy") rows ≡ None) × (first_of (codes "policy-text") rows ≡ Some text.now)

-- an option's value is the decimal numeral of n, which has so many bits
pub record IsOptionNumber (bits : ℕ) (id : Text) (rows : List Row) (n : ℕ) : Type 0 where
  pub numeral : Text
  pub given : one_of id rows ≡ Some numeral
  pub digits : IsNumeral 10 (without_leading_plus numeral)
  pub value : digits_value 10 (without_leading_plus numeral) ≡ n
  pub fits : n < 2 ^ bits

-- the option was given, or it was not
pub record IsFlag (id : Text) (rows : List Row) (b : Bool) : Type 0 where
  pub given : one_of id rows ≡ Some (codes "true") → b ≡ true
  pub absent : one_of id rows ≡ Some (codes "false") → b ≡ false

pub record AreOptions (options : OfflineOptions) (rows : List Row) : Type 0 where
  pub policy : IsSource options.policy rows
  pub subscriber : first_of (codes "subscriber") rows ≡ Some options.subscriber.now
  pub now : IsOptionNumber 32 (codes "now") rows options.now
  pub target : IsOptionNumber 16 (codes "target") rows options.target
  pub audit : first_of (codes "audit") rows ≡ option_map (λ path. path.now) options.audit
  pub hex : IsFlag (codes "hex") rows options.hex

pub record AreReplayOptions (options : ReplayOptions) (rows : List Row) : Type 0 where
  pub calls : first_of (codes "calls") rows ≡ Some options.calls.now
  pub journal : first_of (codes "journal") rows ≡ option_map (λ path. path.now) options.journal

pub record AreVerifyOptions (options : VerifyOptions) (rows : List Row) : Type 0 where
  pub journal : first_of (codes "journal") rows ≡ Some options.journal.now
  pub quiet : IsFlag (codes "quiet") rows options.quiet

-- an option that need not be given has such a value where it is
abbrev pub IsMaybeNumber : ℕ → Text → List Row → Option ℕ → Type 0
IsMaybeNumber bits id rows None = first_of id rows ≡ None
IsMaybeNumber bits id rows (Some n) = IsOptionNumber bits id rows n

pub record AreExplainOptions (options : ExplainOptions) (rows : List Row) : Type 0 where
  pub journal : first_of (codes "journal") rows ≡ Some options.journal.now
  pub sub : IsOptionNumber 64 (codes "sub") rows options.sub
  pub position : IsMaybeNumber 64 (codes "position") rows options.position
  pub index : IsMaybeNumber 32 (codes "index") rows options.index

-- the command that was named, and its options
abbrev pub IsCommand : Task → Text → List Row → Type 0
IsCommand (Offline options) name rows = (name ≡ codes "offline") × AreOptions options rows
IsCommand (CheckPolicy source) name rows = (name ≡ codes "check-policy") × IsSource source rows
IsCommand (Replay options) name rows = (name ≡ codes "replay") × AreReplayOptions options rows
IsCommand (Serve path) name rows = (name ≡ codes "serve") × (first_of (codes "settings") rows ≡ Some path.now)
IsCommand (Verify options) name rows = (name ≡ codes "verify") × AreVerifyOptions options rows
IsCommand (Explain options) name rows = (name ≡ codes "explain") × AreExplainOptions options rows
IsCommand (Show text) name rows = ⊥

abbrev pub IsCommandIn : Task → Option (Text × List Row) → Type 0
IsCommandIn task None = ⊥
IsCommandIn task (Some command) = IsCommand task command.0 command.1

-- help and the version are shown where the words ask for that
abbrev pub is_shown : ErrorKind → Bool
is_shown DisplayHelp = true
is_shown DisplayVersion = true
is_shown _ = false

-- what the words ask for
abbrev pub AsksForTask : List Text → Task → Type 0
AsksForTask words (Show text) = IsAmong (kind_of text) (fault_of ipmd_command words) × (is_shown (kind_of text) ≡ true)
AsksForTask words (Offline options) = IsCommandIn (Offline options) (subcommand_of ipmd_command words)
AsksForTask words (CheckPolicy source) = IsCommandIn (CheckPolicy source) (subcommand_of ipmd_command words)
AsksForTask words (Replay options) = IsCommandIn (Replay options) (subcommand_of ipmd_command words)
AsksForTask words (Serve path) = IsCommandIn (Serve path) (subcommand_of ipmd_command words)
AsksForTask words (Verify options) = IsCommandIn (Verify options) (subcommand_of ipmd_command words)
AsksForTask words (Explain options) = IsCommandIn (Explain options) (subcommand_of ipmd_command words)

-- the words ask for nothing: the parser says so, or no command is what they name with its options
abbrev pub RefusesWords : List Text → Fault → Type 0
RefusesWords words (Refused error) =
    (IsAmong (kind_of error) (fault_of ipmd_command words) ⊎ ((task : Task) → IsCommandIn task (subcommand_of ipmd_command words) → ⊥)) × (is_shown (kind_of error) ≡ false)
RefusesWords words OutOfMemory = Unit {0}
