-- What is said of a record: what a subscriber sees of it, and by which rules.
use Rattle.std.specs.Prelude.{ℕ, List, [], ◌++◌, codes, slice_get, Option, Some, None, ◌==◌, if◌then◌else◌}
use Rattle.std.specs.List.{flat_map}
use Rattle.std.specs.Fmt.{decimal}
use Rattle.ipfix_element.specs.Element.{Element}
use Rattle.ipfix_element.specs.Names.{element_name}
use Rattle.ipfix_template.specs.DataRecord.{DataRecord}
use Rattle.policy_text.specs.declared.rule.Rule.{Rule}
use Rattle.policy_text.specs.Policies.{Aggregate, PolicyMeaning as Policy}
use Rattle.policy_judge.specs.declared.verdict.ElementAction.{ElementAction}
use Rattle.policy_judge.specs.declared.verdict.ElementAction.TheVariants.{Keep, Remove, Truncate, Degrade}
use Rattle.policy_judge.specs.declared.verdict.ElementVerdict.{ElementVerdict}
use Rattle.policy_judge.specs.Match.{element_at}
use Rattle.policy_judge.specs.Verdicts.{record_verdict_of, element_verdict_of}
use Rattle.disclosure_audit.specs.declared.reason.Reason.{Reason}
use Rattle.disclosure_audit.specs.declared.reason.Reason.TheVariants as because
use Rattle.flow_anonymize.specs.declared.disclosure.Disclosure.TheVariants.{Passed, Aggregated, Withheld}
use Rattle.flow_anonymize.specs.Outcome.{Outcome}
use Rattle.flow_anonymize.specs.Remaining.{places_of}
use Rattle.flow_anonymize.specs.Disclosed.{disclosure_of}
use Rattle.flow_aggregate.specs.declared.timing.Timing.{Timing}
use Rattle.flow_aggregate.specs.declared.timing.Timing.TheVariants as timing
use Rattle.mediator_history.specs.Counting.{timing_in}

-- by which rule; rule 0 stands where none matches
abbrev pub by_rule : ℕ → List ℕ
by_rule rule = if rule == 0 then codes ", no rule matches it" else codes " by rule " ++ decimal rule

-- ---- the fields

-- what an action does to the field of an element of this name
abbrev pub change_words : List ℕ → ElementAction → List ℕ → List ℕ
change_words name Keep by = codes "; " ++ (name ++ (codes " kept" ++ by))
change_words name Remove by = codes "; " ++ (name ++ (codes " removed" ++ by))
change_words name (Truncate bits) by = codes "; " ++ (name ++ (codes " cut to " ++ (decimal bits ++ (codes " bits" ++ by))))
change_words name (Degrade seconds) by = codes "; " ++ (name ++ (codes " lowered to a multiple of " ++ (decimal seconds ++ (codes " seconds" ++ by))))

abbrev pub name_in : Option Element → List ℕ
name_in None = []
name_in (Some e) = element_name e

abbrev pub verdict_words : List ℕ → ElementVerdict → List ℕ
verdict_words name verdict = change_words name verdict.action (by_rule verdict.rule)

-- what becomes of the field at a place, by the first rule that matches it
abbrev pub field_words : List Rule → List ℕ → ℕ → DataRecord → ℕ → List ℕ
field_words rules name domain r place = verdict_words (name_in (element_at r place)) (element_verdict_of name domain r place rules)

-- of each field, in their order
abbrev pub fields_words : List Rule → List ℕ → ℕ → DataRecord → List ℕ
fields_words rules name domain r = flat_map (field_words rules name domain r) (places_of r)

-- ---- the record

-- a rule lets the record pass, and what becomes of its fields
abbrev pub passing_words : List Rule → List ℕ → ℕ → DataRecord → List ℕ
passing_words rules name domain r =
    codes "rule " ++ (decimal (record_verdict_of name domain r rules).rule ++ (codes " passes it" ++ fields_words rules name domain r))

-- it is withheld: by a rule on records, or for what is left of its fields; the rules withhold none for another reason
abbrev pub withheld_words : List ℕ → List ℕ → Reason → List ℕ
withheld_words passing by because.ScopeLost = passing ++ (codes "; withheld, since " ++ (codes "a scope field is removed" ++ by))
withheld_words passing by because.Empty = passing ++ (codes "; withheld, since " ++ (codes "all is removed" ++ by))
withheld_words passing by _ = codes "withheld" ++ by

-- it counts in an aggregate of this name, or why it doesn't
abbrev pub timing_words : List ℕ → List ℕ → Timing → List ℕ
timing_words name by (timing.Placed start) = codes "counted in the aggregate " ++ (name ++ by)
timing_words name by timing.NoTime = codes "withheld" ++ (by ++ (codes ": the aggregate " ++ (name ++ codes " finds no time in it")))
timing_words name by timing.NoKey = codes "withheld" ++ (by ++ (codes ": the aggregate " ++ (name ++ codes " finds no key in it")))
timing_words name by timing.Late = codes "withheld" ++ (by ++ (codes ": it is late for the aggregate " ++ name))

abbrev pub aggregate_name : Option Aggregate → List ℕ
aggregate_name None = []
aggregate_name (Some a) = a.name

-- so for the aggregate at a place of a policy's list
abbrev pub aggregate_words_in : Option Aggregate → ℕ → ℕ → DataRecord → List ℕ
aggregate_words_in a rule clock r = timing_words (aggregate_name a) (by_rule rule) (timing_in a r clock)

abbrev pub explained_aggregate : List Aggregate → ℕ → ℕ → ℕ → DataRecord → List ℕ
explained_aggregate aggregates rule place clock r = aggregate_words_in (slice_get aggregates place) rule clock r

abbrev pub outcome_words : List ℕ → List Aggregate → ℕ → DataRecord → Outcome → List ℕ
outcome_words passing aggregates clock r (Passed kept removed) = passing
outcome_words passing aggregates clock r (Aggregated rule place) = explained_aggregate aggregates rule place clock r
outcome_words passing aggregates clock r (Withheld rule reason) = withheld_words passing (by_rule rule) reason

-- what the subscriber of a name sees of a record of an observation domain by a policy, where the clock stands so
abbrev pub explanation : Policy → List ℕ → ℕ → ℕ → DataRecord → List ℕ
explanation policy name domain clock r =
    outcome_words (passing_words policy.rules name domain r) policy.aggregates clock r (disclosure_of name domain r policy.rules)
