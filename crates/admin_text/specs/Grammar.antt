-- Which lines are commands, in the words of the format: one word alone, or two words with one space between, the first of which names
-- the command; numbers are decimal without leading zeros. A line is meant without its line feed.
use Rattle.std.specs.Prelude.{◌≡◌, ℕ, ◌<◌, ◌≤◌, List, [], ◌∷◌, length, codes}
use Rattle.replay_text.specs.Grammar.{words_text, IsWord, IsNumberLine}
use Rattle.replay_text.specs.Lines.{greatest}
use Rattle.admin_text.specs.Sayings.{AdminSaying}
use Rattle.admin_text.specs.Sayings.AdminSaying.{to_edit, to_subscribe, to_unsubscribe, to_advance, to_tell_status, to_drain_audit, to_tell, to_stop}
use Rattle.admin_text.specs.declared.command.Topic.{Topic}
use Rattle.admin_text.specs.declared.command.Topic.TheVariants as topic

-- the octets of the longest line, and of the longest text of a policy
abbrev pub longest_line : ℕ
longest_line = 1024

abbrev pub longest_policy : ℕ
longest_policy = 1048576

-- the most audit entries that a line may ask for
abbrev pub most_audit_entries : ℕ
most_audit_entries = 10000

-- `subscribe NAME`, in which any word may be the name: one octet or more, none of them a space
pub record IsSubscribeLine (name line : List ℕ) : Type 0 where
  pub begun : 0 < length name
  pub word : IsWord name
  pub text : line ≡ words_text (codes "subscribe" ∷ name ∷ [])

-- `audit MAX`, which asks for one entry or more
pub record IsAuditLine (most : ℕ) (line : List ℕ) : Type 0 where
  pub begun : 1 ≤ most
  pub number : IsNumberLine (codes "audit") most_audit_entries most line

-- the word that asks for this
abbrev pub topic_word : Topic → List ℕ
topic_word topic.Subscriptions = codes "status"
topic_word topic.Run = codes "run"
topic_word topic.Policy = codes "policy"
topic_word topic.Help = codes "help"

-- the words ask for this
abbrev pub AsksFor : AdminSaying → List ℕ → Type 0
AsksFor (to_edit octets) line = IsNumberLine (codes "edit") longest_policy octets line
AsksFor (to_subscribe name) line = IsSubscribeLine name line
AsksFor (to_unsubscribe sub) line = IsNumberLine (codes "unsubscribe") (greatest 64) sub line
AsksFor (to_advance t) line = IsNumberLine (codes "advance") (greatest 64) t line
AsksFor (to_tell_status sub) line = IsNumberLine (codes "status") (greatest 64) sub line
AsksFor (to_drain_audit most) line = IsAuditLine most line
AsksFor (to_tell about) line = line ≡ topic_word about
AsksFor to_stop line = line ≡ codes "stop"

-- the line is this command
pub record IsCommandLine (said : AdminSaying) (line : List ℕ) : Type 0 where
  pub fits : length line ≤ longest_line
  pub asks : AsksFor said line

-- the line is a command that has a name
abbrev pub IsNamingLine : List ℕ → Type 0
IsNamingLine line = (name : List ℕ) × IsCommandLine (to_subscribe name) line

-- no line is two commands
abbrev pub OneMeaning : Type 0
OneMeaning = (a b : AdminSaying) (line : List ℕ) → IsCommandLine a line → IsCommandLine b line → a ≡ b
