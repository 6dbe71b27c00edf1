-- Plans that are kept for a subscriber, for records that come again.
use Rattle.std.specs.Prelude.{◌≡◌, ℕ, ◌≤◌, Bool, List, length, Option, Some, ◌==◌, ◌&&◌}
use Rattle.std.specs.List.{All}
use Rattle.ipfix_template.specs.declared.template.Template.{Template}
use Rattle.ipfix_template.specs.DataRecord.{DataRecord, IsSound}
use Rattle.policy_text.specs.declared.rule.Rule.{Rule}
use Rattle.rule_table.specs.Cuts.{HaveCuts, most_cuts}
use Rattle.flow_anonymize.specs.declared.record_classes.RecordClasses.{RecordClasses}
use Rattle.flow_anonymize.specs.declared.slot.Slot.{Slot}
use Rattle.flow_anonymize.specs.Outcome.{Outcome, passed}
use Rattle.flow_anonymize.specs.Disclosed.{disclosure_of}
use Rattle.flow_anonymize.specs.Planning.{planned, IsShowable}
use Rattle.flow_anonymize.specs.Classes.{classes_of}

-- what plans are made for: by these rules and the cuts of their prefixes, the records of a template, if one is named, in an observation
-- domain, for the subscriber of a name
pub record PlansFor : Type 0 where
  pub rules : List Rule
  pub cuts : List ℕ
  pub name : List ℕ
  pub domain : ℕ
  pub template : Option Template

-- beside it the records that passed
pub record PlansOf : Type 0 where
  pub for : PlansFor
  pub given : List DataRecord

-- what is disclosed of a record
abbrev pub outcome_for : PlansFor → DataRecord → Outcome
outcome_for for r = disclosure_of for.name for.domain r for.rules

-- what of it passes
abbrev pub passed_for : PlansFor → DataRecord → List DataRecord
passed_for for r = passed (outcome_for for r)

-- a plan for records whose addresses have these classes
abbrev pub has_classes : RecordClasses → Slot → Bool
has_classes classes slot = slot.classes.sources == classes.sources && slot.classes.destinations == classes.destinations

-- what a plan makes of a record is what is disclosed of it
pub record Discloses (for : PlansFor) (r : DataRecord) (slot : Slot) : Type 0 where
  pub exact : planned slot.plan r.values ≡ outcome_for for r
  pub showable : IsShowable slot.plan r

-- of each record that it is for
abbrev pub IsSlot : PlansFor → Slot → Type 0
IsSlot for slot = (r : DataRecord) → IsSound r → for.template ≡ Some r.template → classes_of for.cuts r ≡ Some slot.classes → Discloses for r slot

pub record ArePlansKept (for : PlansFor) (slots : List Slot) : Type 0 where
  pub cut : HaveCuts for.cuts for.rules
  pub few : length for.cuts ≤ most_cuts
  pub each : All (IsSlot for) slots
