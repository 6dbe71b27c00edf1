-- What the items of one message hold: records, and what is skipped (RFC 7011, sections 3.3.2, 3.4.3 and 8). That a Data Set
-- without a template is skipped, and that a record past its set's end refuses the message, are this project's own rules.
use Rattle.std.specs.Prelude.{ℕ, ◌+◌, List, [], ◌∷◌, ◌++◌, take, drop, map, Option, Some, None, Result, Ok, Err}
use Rattle.ipfix_template.specs.declared.template.Template.{Template}
use Rattle.ipfix_template.specs.Values.{records_in}
use Rattle.ipfix_template.specs.DataRecord.{DataRecord}
use Rattle.ipfix_message.specs.declared.item.Item.{Item}
use Rattle.ipfix_message.specs.declared.item.Item.TheVariants.{Define, Withdraw, WithdrawAll, Refused, DataSet, Skipped}
use Rattle.sequences.specs.Results.{◌>>=◌}
use Rattle.ipfix_session.specs.InForce.{template_in_force}
use Rattle.ipfix_session.specs.declared.read.Skips.{Skips}
use Rattle.ipfix_session.specs.declared.fault.Fault.{Fault}
use Rattle.ipfix_session.specs.declared.fault.Fault.TheVariants.{RecordOverrun}

-- records, and how many sets and templates were skipped
pub record Contents : Type 0 where
  pub records : List DataRecord
  pub skips : Skips

abbrev pub skips_of : ℕ → ℕ → ℕ → Skips
skips_of unknown reserved refused = record { unknown = unknown; reserved = reserved; refused = refused }

abbrev pub nothing : Contents
nothing = record { records = []; skips = skips_of 0 0 0 }

abbrev pub only_records : List DataRecord → Contents
only_records records = record { records = records; skips = skips_of 0 0 0 }

abbrev pub only_skips : Skips → Contents
only_skips skips = record { records = []; skips = skips }

-- what two parts of a message hold together
abbrev pub both : Contents → Contents → Contents
both a b = record {
  records = a.records ++ b.records;
  skips = skips_of (a.skips.unknown + b.skips.unknown) (a.skips.reserved + b.skips.reserved) (a.skips.refused + b.skips.refused);
}

abbrev pub record_of : Template → List (List ℕ) → DataRecord
record_of t values = record { template = t; values = values }

-- each row of values is a record of the template
abbrev pub rows_of : Template → Result (List (List (List ℕ))) (Unit {0}) → Result Contents Fault
rows_of t (Ok rows) = Ok (only_records (map (record_of t) rows))
rows_of t (Err e) = Err RecordOverrun

-- a Data Set's records by the template in force; without one the set is skipped
abbrev pub set_contents : Option Template → List ℕ → Result Contents Fault
set_contents None content = Ok (only_skips (skips_of 1 0 0))
set_contents (Some t) content = rows_of t (records_in t content)

-- what an item of a message holds, after items of its session and domain that stand newest first
abbrev pub item_contents : List Item → List ℕ → Item → Result Contents Fault
item_contents older message (DataSet id start len) = set_contents (template_in_force id older) (take len (drop start message))
item_contents older message (Skipped set) = Ok (only_skips (skips_of 0 1 0))
item_contents older message (Refused id why) = Ok (only_skips (skips_of 0 0 1))
item_contents older message (Define id t) = Ok nothing
item_contents older message (Withdraw id) = Ok nothing
item_contents older message (WithdrawAll options) = Ok nothing

-- what items of a message hold one after another, or the fault of the first that has one
unfoldable pub contents_after : List Item → List ℕ → List Item → Result Contents Fault
contents_after older message [] = Ok nothing
contents_after older message (item ∷ items) = do
  first ← item_contents older message item
  others ← contents_after (item ∷ older) message items
  Ok (both first others)

-- what two parts of a message hold together, or the fault of the first that has one
abbrev pub both_read : Result Contents Fault → Result Contents Fault → Result Contents Fault
both_read (Ok first) (Ok others) = Ok (both first others)
both_read (Ok first) (Err e) = Err e
both_read (Err e) others = Err e
