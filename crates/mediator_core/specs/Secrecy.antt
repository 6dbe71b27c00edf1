-- What never matters to what is disclosed to a subscription: laws over histories.
use Rattle.std.specs.Prelude.{◌≡◌, ◌⊎◌, ℕ, Bool, true, ◌==◌, List, [], ◌∷◌, ◌++◌, filter, Ok}
use Rattle.std.specs.List.{AllByRecursion}
use Rattle.ipfix_template.specs.DataRecord.{DataRecord}
use Rattle.ipfix_session.specs.Meaning.{domain_of}
use Rattle.policy_text.specs.declared.rule.Rule.{Rule}
use Rattle.policy_text.specs.Policies.{PolicyMeaning as Policy}
use Rattle.policy_text.specs.Parsing.{policy_of}
use Rattle.policy_judge.specs.declared.verdict.RecordAction.TheVariants.{Aggregate}
use Rattle.policy_judge.specs.Verdicts.{record_verdict_of}
use Rattle.policy_judge.specs.Laws.{concerning}
use Rattle.flow_anonymize.specs.Secrecy.{AreAlike}
use Rattle.event_journal.specs.declared.entry.Entry.{Entry}
use Rattle.event_journal.specs.declared.entry.Entry.TheVariants.{Message, Edit, Subscribe, Unsubscribe, Cut}
use Rattle.mediator_history.specs.Subscriptions.{policy_in_force, name_of}
use Rattle.mediator_history.specs.Accepted.{records_at}
use Rattle.mediator_history.specs.Disclosed.{disclosed}

-- the entries stand in this relation, place by place
abbrev pub EntryByEntry : (Entry → Entry → Type 0) → List Entry → List Entry → Type 0
EntryByEntry R [] [] = Unit {0}
EntryByEntry R (e ∷ h) (f ∷ g) = R e f × EntryByEntry R h g
EntryByEntry R [] (f ∷ g) = ⊥
EntryByEntry R (e ∷ h) [] = ⊥

-- ---- rules that name others

-- the second text spells the first one's policy without the rules that name another subscriber, with the same aggregates
pub record LeavesOut (name : List ℕ) (text less : List ℕ) : Type 0 where
  pub policy : Policy
  pub rest : Policy
  pub spelled : policy_of text ≡ Ok policy
  pub spelled_rest : policy_of less ≡ Ok rest
  pub rules : rest.rules ≡ concerning name policy.rules
  pub aggregates : rest.aggregates ≡ policy.aggregates

-- two edits, of which the second is the first without the rules that name another subscriber
pub record IsEditLess (name : List ℕ) (e f : Entry) : Type 0 where
  pub text : List ℕ
  pub less : List ℕ
  pub first : e ≡ Edit text
  pub second : f ≡ Edit less
  pub leaves_out : LeavesOut name text less

-- two such edits, or the same entry
abbrev pub IsSameOrLess : List ℕ → Entry → Entry → Type 0
IsSameOrLess name e f = (e ≡ f) ⊎ IsEditLess name e f

-- the subscription has this name wherever it begins
abbrev pub IsCalled : ℕ → List ℕ → Entry → Type 0
IsCalled sub name e = (n : List ℕ) → e ≡ Subscribe sub n → n ≡ name

-- the same is disclosed where rules that name another subscriber are left out of edits
abbrev pub RulesOfOthersNeverMatter : Type 0
RulesOfOthersNeverMatter = (sub : ℕ) (name : List ℕ) (h g : List Entry) → AllByRecursion (IsCalled sub name) h → EntryByEntry (IsSameOrLess name) h g
    → disclosed sub h ≡ disclosed sub g

-- ---- entries of others

-- all but the entries of another subscription
abbrev pub concerns : ℕ → Entry → Bool
concerns sub (Subscribe s name) = s == sub
concerns sub (Unsubscribe s) = s == sub
concerns sub (Cut s) = s == sub
concerns sub _ = true

-- the same is disclosed where the entries of other subscriptions are left out
abbrev pub EntriesOfOthersNeverMatter : Type 0
EntriesOfOthersNeverMatter = (sub : ℕ) (h : List Entry) → disclosed sub (filter (concerns sub) h) ≡ disclosed sub h

-- ---- values that are denied

-- two records that differ in what is denied to the subscriber at most, and are inside the same prefixes of the rules; they are the
-- same record where the first rule on records that matches names an aggregate, which shows what its definition says
pub record IsAlike (name : List ℕ) (domain : ℕ) (rules : List Rule) (r s : DataRecord) : Type 0 where
  pub alike : AreAlike name domain rules r s
  pub counted : (place : ℕ) → (record_verdict_of name domain r rules).action ≡ Aggregate place → r ≡ s

-- records that are so, place by place
abbrev pub AreAllAlike : List ℕ → ℕ → List Rule → List DataRecord → List DataRecord → Type 0
AreAllAlike name domain rules [] [] = Unit {0}
AreAllAlike name domain rules (r ∷ rs) (s ∷ ss) = IsAlike name domain rules r s × AreAllAlike name domain rules rs ss
AreAllAlike name domain rules [] (s ∷ ss) = ⊥
AreAllAlike name domain rules (r ∷ rs) [] = ⊥

-- behind these histories the same entry; or messages of one Observation Domain that bring such records
abbrev pub IsAlikeAt : ℕ → List Entry → List Entry → Entry → Entry → Type 0
IsAlikeAt sub before other (Message session number octets) (Message s n others) =
    (domain_of octets ≡ domain_of others)
    × AreAllAlike (name_of sub before) (domain_of octets) (policy_in_force before).rules (records_at before (Message session number octets)) (records_at other (Message s n others))
IsAlikeAt sub before other e f = e ≡ f

abbrev pub AreAlikeFrom : ℕ → List Entry → List Entry → List Entry → List Entry → Type 0
AreAlikeFrom sub before other [] [] = Unit {0}
AreAlikeFrom sub before other (e ∷ h) (f ∷ g) = IsAlikeAt sub before other e f × AreAlikeFrom sub (before ++ e ∷ []) (other ++ f ∷ []) h g
AreAlikeFrom sub before other [] (f ∷ g) = ⊥
AreAlikeFrom sub before other (e ∷ h) [] = ⊥

-- the same is disclosed where a value that is removed takes another of its length, one that is truncated other bits where it is
-- cut off, or a time that is degraded another within the same step, inside the same prefixes of the revision in force, of a record
-- whose first rule names no aggregate
abbrev pub DeniedValuesNeverMatter : Type 0
DeniedValuesNeverMatter = (sub : ℕ) (h g : List Entry) → AreAlikeFrom sub [] [] h g → disclosed sub h ≡ disclosed sub g
