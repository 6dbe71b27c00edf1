-- The records that a message holds by templates that are known, and how many of them may count in aggregates. How many may is this
-- project's own measure of how much is done at once.
use Rattle.std.specs.Prelude.{◌≡◌, ℕ, List, Ok}
use Rattle.ipfix_template.specs.declared.template.Template.{Template}
use Rattle.ipfix_template.specs.DataRecord.{DataRecord}
use Rattle.ipfix_message.specs.declared.item.Item.{Item}
use Rattle.ipfix_message.specs.Reading.{items_of}
use Rattle.ipfix_session.specs.Contents.{Contents, contents_after}
use Rattle.ipfix_session.specs.Keeping.{Keeps}
use Rattle.ipfix_session.specs.Meaning.{domain_of}
use Rattle.ipfix_session.specs.Standing.{templates_of}
use Rattle.mediator_shares.specs.Totals.{MayCountMoreThan}
use Rattle.prepared_message.specs.Ahead.{OfRecords}
use Rattle.prepared_message.specs.declared.counting.TheConstants.{MOST_COUNTS}

-- the octets are a message, and these are its records where these templates are known of all domains
pub record Holds (known : List (ℕ × List (ℕ × Template))) (message : List ℕ) (records : List DataRecord) : Type 0 where
  pub said : List Item
  pub items : items_of message ≡ Ok said
  pub contents : Contents
  pub held : (older : List Item) → Keeps (templates_of (domain_of message) known) older → contents_after older message said ≡ Ok contents
  pub are : records ≡ contents.records

-- by the templates of some session these are the records of the message; which templates the session has isn't told here
abbrev pub HoldsByAny : List ℕ → List DataRecord → Type 0
HoldsByAny message records = (known : List (ℕ × List (ℕ × Template))) × Holds known message records

-- by the templates of some session, and on some terms, more records of the message count than are allowed
pub record CountsTooMany (message : List ℕ) : Type 0 where
  pub records : List DataRecord
  pub holds : HoldsByAny message records
  pub many : MayCountMoreThan MOST_COUNTS (domain_of message) records

-- what was judged ahead is of this message
pub record IsAheadOf (message : List ℕ) (ahead : OfRecords) : Type 0 where
  pub domain : ahead.domain ≡ domain_of message
  pub holds : HoldsByAny message ahead.records
