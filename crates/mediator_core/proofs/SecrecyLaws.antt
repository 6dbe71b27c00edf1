-- What never matters to what is disclosed.
use Rattle.std.proofs.Common.{◌≡◌, ℕ, Bool, true, false, cond, List, [], ◌∷◌, ◌++◌, Option, Some, None, Result, refl, sym, ap, ◌∙◌, subst, append-nil, inl, inr}
use Rattle.std.specs.Prelude.{◌==◌, filter, reverse, unwrap_or}
use Rattle.std.specs.List.{flat_map, AllByRecursion}
use Rattle.std.proofs.lemmas.Bool.{false≢true, eqb-true}
use Rattle.std.proofs.lemmas.List.Concat.{flat_map-cons}
use Rattle.std.proofs.lemmas.List.Elements.{filter-append}
use Rattle.sequences.specs.Before.{each_after, last_of}
use Rattle.sequences.proofs.BeforeLaws.{last_of-push}
use Rattle.ipfix_template.specs.Template.{shortest_record}
use Rattle.ipfix_template.specs.DataRecord.{DataRecord}
use Rattle.ipfix_session.specs.Meaning.{meaning_of, domain_of}
use Rattle.policy_text.specs.declared.rule.Rule.{Rule}
use Rattle.policy_text.specs.declared.fault.Fault.{Fault as PolicyFault}
use Rattle.policy_text.specs.Policies.{PolicyMeaning as Policy, Aggregate as Definition, nothing as no_policy}
use Rattle.policy_text.specs.Parsing.{policy_of}
use Rattle.policy_judge.specs.declared.verdict.RecordAction.{RecordAction}
use Rattle.policy_judge.specs.declared.verdict.RecordAction.TheVariants.{Pass, Withhold, Aggregate}
use Rattle.policy_judge.specs.declared.verdict.RecordVerdict.{RecordVerdict}
use Rattle.policy_judge.specs.declared.verdict.ElementVerdict.{ElementVerdict}
use Rattle.policy_judge.specs.Verdicts.{record_verdict_of}
use Rattle.policy_judge.specs.Laws.{concerning}
use Rattle.disclosure_audit.specs.declared.entry.RemovedField.{RemovedField}
use Rattle.disclosure_audit.specs.declared.reason.Reason.TheVariants as because
use Rattle.flow_anonymize.specs.declared.disclosure.Disclosure.TheVariants.{Passed, Aggregated, Withheld}
use Rattle.flow_anonymize.specs.Outcome.{Outcome, passed}
use Rattle.flow_anonymize.specs.Remaining.{verdicts_of, removed_fields}
use Rattle.flow_anonymize.specs.Disclosed.{remaining_template, remaining, first_lost, first_rule_of, unless_lost, transformed, by_action, disclosure_of}
use Rattle.flow_anonymize.specs.OtherRules.{unnumbered}
use Rattle.flow_anonymize.proofs.OtherLaws.{others_never_matter}
use Rattle.flow_anonymize.proofs.SecrecyLaws.{denied_is_secret}
use Rattle.flow_aggregate.specs.Groups.{Sample}
use Rattle.flow_aggregate.specs.Closing.{closed_by}
use Rattle.event_journal.specs.declared.entry.Entry.{Entry}
use Rattle.event_journal.specs.declared.entry.Entry.TheVariants.{Open, Close, Message, Edit, Subscribe, Unsubscribe, Advance, Cut}
use Rattle.mediator_history.specs.Sessions.{message_in, messages_of}
use Rattle.mediator_history.specs.Subscriptions.{policy_or_none, policy_from, policy_in_force, named, name_of, switched, is_served}
use Rattle.mediator_history.specs.Accepted.{records_meant, records_at}
use Rattle.mediator_history.specs.Counting.{clock_in, clock_of, counts, counted_at, counted, running}
use Rattle.mediator_history.specs.Disclosed.{given_at}
use Rattle.mediator_history.proofs.HistoryLaws.{flat_map-push}
use Rattle.mediator_history.proofs.CountingLaws.{counted-push, running_by}
use Rattle.mediator_core.specs.Secrecy.{EntryByEntry, LeavesOut, IsSameOrLess, IsCalled, RulesOfOthersNeverMatter, concerns, EntriesOfOthersNeverMatter, IsAlike, AreAllAlike, IsAlikeAt, AreAlikeFrom, DeniedValuesNeverMatter}

-- ---- what a message brings

-- what passes of a record and what counts of it, by the subscriber's name, the domain, the policy and the clock
abbrev passing : List ℕ → ℕ → Policy → ℕ → DataRecord → List DataRecord
passing name domain policy clock r = passed (disclosure_of name domain r policy.rules)

abbrev counting : List ℕ → ℕ → Policy → ℕ → DataRecord → List Sample
counting name domain policy clock r = counts policy.aggregates clock r (disclosure_of name domain r policy.rules)

-- what decides of a message's records is the same behind both
record AreJudgedAlike (sub : ℕ) (b c : List Entry) : Type 0 where
  pub served : is_served sub b ≡ is_served sub c
  pub names : name_of sub b ≡ name_of sub c
  pub policies : policy_in_force b ≡ policy_in_force c
  pub clocks : clock_of b ≡ clock_of c

brought_alike : {A : Type 0} (f : List ℕ → ℕ → Policy → ℕ → DataRecord → List A) (sub : ℕ) (b c : List Entry) (domain other : ℕ) (rs ss : List DataRecord) → AreJudgedAlike sub b c → domain ≡ other
    → flat_map (f (name_of sub b) domain (policy_in_force b) (clock_of b)) rs ≡ flat_map (f (name_of sub b) domain (policy_in_force b) (clock_of b)) ss
    → cond (is_served sub b) (flat_map (f (name_of sub b) domain (policy_in_force b) (clock_of b)) rs) [] ≡ cond (is_served sub c) (flat_map (f (name_of sub c) other (policy_in_force c) (clock_of c)) ss) []
brought_alike {A} f sub b c domain other rs ss judged domains same =
    ap (λ (on : Bool). cond on (flat_map (f (name_of sub b) domain (policy_in_force b) (clock_of b)) rs) []) judged.served
    ∙ ap (λ (t : List A). cond (is_served sub c) t []) same
    ∙ ap (λ (name : List ℕ). cond (is_served sub c) (flat_map (f name domain (policy_in_force b) (clock_of b)) ss) []) judged.names
    ∙ ap (λ (d : ℕ). cond (is_served sub c) (flat_map (f (name_of sub c) d (policy_in_force b) (clock_of b)) ss) []) domains
    ∙ ap (λ (policy : Policy). cond (is_served sub c) (flat_map (f (name_of sub c) other policy (clock_of b)) ss) []) judged.policies
    ∙ ap (λ (clock : ℕ). cond (is_served sub c) (flat_map (f (name_of sub c) other (policy_in_force c) clock) ss) []) judged.clocks

-- ---- one entry more behind both

last_alike : {B : Type 0} (g : Entry → Option B) (start : B) (b c : List Entry) (e f : Entry) → last_of g start b ≡ last_of g start c → g e ≡ g f → last_of g start (b ++ e ∷ []) ≡ last_of g start (c ++ f ∷ [])
last_alike {B} g start b c e f before here =
    last_of-push g start b e ∙ ap (λ (o : Option B). unwrap_or o (last_of g start b)) here ∙ ap (unwrap_or (g f)) before ∙ sym (last_of-push g start c f)

counted_alike : (sub : ℕ) (b c : List Entry) (e f : Entry) → counted sub b ≡ counted sub c → counted_at sub b e ≡ counted_at sub c f → counted sub (b ++ e ∷ []) ≡ counted sub (c ++ f ∷ [])
counted_alike sub b c e f before here =
    counted-push sub b e ∙ ap (λ (t : List Sample). t ++ counted_at sub b e) before ∙ ap (λ (t : List Sample). counted sub c ++ t) here ∙ sym (counted-push sub c f)

flat_map_same : {A B : Type 0} (f g : A → List B) → ((x : A) → f x ≡ g x) → (xs : List A) → flat_map f xs ≡ flat_map g xs
flat_map_same f g same [] = refl
flat_map_same {A} {B} f g same (x ∷ xs) =
    flat_map-cons f x xs ∙ ap (λ (t : List B). t ++ flat_map f xs) (same x) ∙ ap (λ (t : List B). g x ++ t) (flat_map_same f g same xs) ∙ sym (flat_map-cons g x xs)

-- ---- entries of others

-- what no other subscription's entry decides stays where they are left out
last_kept : {B : Type 0} (f : Entry → Option B) (sub : ℕ) → ((e : Entry) → concerns sub e ≡ false → f e ≡ None) → (h : List Entry) (start : B) → last_of f start (filter (concerns sub) h) ≡ last_of f start h
last_kept f sub none [] start = refl
last_kept {B} f sub none (e ∷ h) start = by_test (concerns sub e) refl (last_kept f sub none h) where
  by_test : (b : Bool) → concerns sub e ≡ b → ((s : B) → last_of f s (filter (concerns sub) h) ≡ last_of f s h) → last_of f start (cond b (e ∷ filter (concerns sub) h) (filter (concerns sub) h)) ≡ last_of f (unwrap_or (f e) start) h
  by_test true is others = others (unwrap_or (f e) start)
  by_test false is others = others start ∙ ap (λ (o : Option B). last_of f (unwrap_or o start) h) (sym (none e is))

flat_kept : {A : Type 0} (f : Entry → List A) (sub : ℕ) → ((e : Entry) → concerns sub e ≡ false → f e ≡ []) → (h : List Entry) → flat_map f (filter (concerns sub) h) ≡ flat_map f h
flat_kept f sub none [] = refl
flat_kept {A} f sub none (e ∷ h) = by_test (concerns sub e) refl (flat_kept f sub none h) where
  by_test : (b : Bool) → concerns sub e ≡ b → flat_map f (filter (concerns sub) h) ≡ flat_map f h → flat_map f (cond b (e ∷ filter (concerns sub) h) (filter (concerns sub) h)) ≡ flat_map f (e ∷ h)
  by_test true is others = flat_map-cons f e (filter (concerns sub) h) ∙ ap (λ (t : List A). f e ++ t) others ∙ sym (flat_map-cons f e h)
  by_test false is others = others ∙ ap (λ (t : List A). t ++ flat_map f h) (sym (none e is)) ∙ sym (flat_map-cons f e h)

-- an entry of another subscription
unswitched : (sub : ℕ) (e : Entry) → concerns sub e ≡ false → switched sub e ≡ None
unswitched sub (Subscribe s name) other = rw other refl
unswitched sub (Unsubscribe s) other = rw other refl
unswitched sub (Cut s) other = rw other refl
unswitched sub (Open s) other = absurd (false≢true (sym other))
unswitched sub (Close s) other = absurd (false≢true (sym other))
unswitched sub (Message s n octets) other = absurd (false≢true (sym other))
unswitched sub (Edit text) other = absurd (false≢true (sym other))
unswitched sub (Advance t) other = absurd (false≢true (sym other))

unnamed : (sub : ℕ) (e : Entry) → concerns sub e ≡ false → named sub e ≡ None
unnamed sub (Subscribe s name) other = rw other refl
unnamed sub _ other = refl

unedited : (sub : ℕ) (e : Entry) → concerns sub e ≡ false → policy_from e ≡ None
unedited sub (Edit text) other = absurd (false≢true (sym other))
unedited sub _ other = refl

unsent : (sub session : ℕ) (e : Entry) → concerns sub e ≡ false → message_in session e ≡ []
unsent sub session (Message s n octets) other = absurd (false≢true (sym other))
unsent sub session _ other = refl

unclocked : (sub : ℕ) (e : Entry) → concerns sub e ≡ false → clock_in e ≡ None
unclocked sub (Advance t) other = absurd (false≢true (sym other))
unclocked sub _ other = refl

uncounted : (sub : ℕ) (before : List Entry) (e : Entry) → concerns sub e ≡ false → counted_at sub before e ≡ []
uncounted sub before (Message s n octets) other = absurd (false≢true (sym other))
uncounted sub before _ other = refl

ungiven : (sub : ℕ) (before : List Entry) (e : Entry) → concerns sub e ≡ false → given_at sub before e ≡ []
ungiven sub before (Message s n octets) other = absurd (false≢true (sym other))
ungiven sub before (Advance t) other = absurd (false≢true (sym other))
ungiven sub before _ other = refl

judged_kept : (sub : ℕ) (before : List Entry) → AreJudgedAlike sub (filter (concerns sub) before) before
judged_kept sub before = record {
  served = last_kept (switched sub) sub (unswitched sub) before false;
  names = last_kept (named sub) sub (unnamed sub) before [];
  policies = last_kept policy_from sub (unedited sub) before no_policy;
  clocks = last_kept clock_in sub (unclocked sub) before 0;
}

-- the records of a message, by the session's earlier messages
records_kept : {A : Type 0} (f : DataRecord → List A) (sub session : ℕ) (octets : List ℕ) (before : List Entry)
    → flat_map f (records_meant (meaning_of (messages_of session (filter (concerns sub) before)) octets)) ≡ flat_map f (records_meant (meaning_of (messages_of session before) octets))
records_kept f sub session octets before =
    ap (λ (sent : List (List ℕ)). flat_map f (records_meant (meaning_of (reverse sent) octets))) (flat_kept (message_in session) sub (unsent sub session) before)

-- what f brings at entries that give it nothing where they are another's
each_kept : {A : Type 0} (f : List Entry → Entry → List A) (sub : ℕ) → ((before : List Entry) (e : Entry) → f (filter (concerns sub) before) e ≡ f before e)
    → ((before : List Entry) (e : Entry) → concerns sub e ≡ false → f before e ≡ []) → (h before : List Entry) → each_after f (filter (concerns sub) before) (filter (concerns sub) h) ≡ each_after f before h
each_kept f sub same none [] before = refl
each_kept {A} f sub same none (e ∷ h) before = by_test (concerns sub e) refl (each_kept f sub same none h (before ++ e ∷ [])) where
  kept : List Entry → List Entry
  kept l = filter (concerns sub) l

  by_test : (b : Bool) → concerns sub e ≡ b → each_after f (kept (before ++ e ∷ [])) (kept h) ≡ each_after f (before ++ e ∷ []) h
      → each_after f (kept before) (cond b (e ∷ kept h) (kept h)) ≡ f before e ++ each_after f (before ++ e ∷ []) h
  by_test true is others =
      let one : kept (e ∷ []) ≡ e ∷ [] = rw is refl in
      let all : kept (before ++ e ∷ []) ≡ kept before ++ e ∷ [] = filter-append (concerns sub) before (e ∷ []) ∙ ap (λ (t : List Entry). kept before ++ t) one in
      ap (λ (t : List A). t ++ each_after f (kept before ++ e ∷ []) (kept h)) (same before e)
      ∙ ap (λ (t : List A). f before e ++ t) (ap (λ (b : List Entry). each_after f b (kept h)) (sym all) ∙ others)
  by_test false is others =
      let gone : kept (e ∷ []) ≡ [] = rw is refl in
      let all : kept (before ++ e ∷ []) ≡ kept before = filter-append (concerns sub) before (e ∷ []) ∙ ap (λ (t : List Entry). kept before ++ t) gone ∙ append-nil (kept before) in
      ap (λ (b : List Entry). each_after f b (kept h)) (sym all) ∙ others
      ∙ ap (λ (t : List A). t ++ each_after f (before ++ e ∷ []) h) (sym (none before e is))

counted_kept : (sub : ℕ) (before : List Entry) (e : Entry) → counted_at sub (filter (concerns sub) before) e ≡ counted_at sub before e
counted_kept sub before (Message session number octets) =
    brought_alike counting sub (filter (concerns sub) before) before (domain_of octets) (domain_of octets) _ _ (judged_kept sub before) refl (records_kept _ sub session octets before)
counted_kept sub before _ = refl

running_kept : (sub : ℕ) (h : List Entry) → running sub (filter (concerns sub) h) ≡ running sub h
running_kept sub h =
    let judged : AreJudgedAlike sub (filter (concerns sub) h) h = judged_kept sub h in
    running_by sub (filter (concerns sub) h) h judged.served judged.clocks (each_kept (counted_at sub) sub (counted_kept sub) (uncounted sub) h [])

given_kept : (sub : ℕ) (before : List Entry) (e : Entry) → given_at sub (filter (concerns sub) before) e ≡ given_at sub before e
given_kept sub before (Message session number octets) =
    brought_alike passing sub (filter (concerns sub) before) before (domain_of octets) (domain_of octets) _ _ (judged_kept sub before) refl (records_kept _ sub session octets before)
given_kept sub before (Advance t) = ap (closed_by t) (running_kept sub before)
given_kept sub before _ = refl

pub entries_of_others : EntriesOfOthersNeverMatter
entries_of_others sub h = each_kept (given_at sub) sub (given_kept sub) (ungiven sub) h []

-- ---- values that are denied

-- what decides of an entry is the same behind both
record AreSeenAlike (sub : ℕ) (b c : List Entry) : Type 0 where
  pub judged : AreJudgedAlike sub b c
  pub counts : counted sub b ≡ counted sub c

running_alike : (sub : ℕ) (b c : List Entry) → AreSeenAlike sub b c → running sub b ≡ running sub c
running_alike sub b c seen = running_by sub b c seen.judged.served seen.judged.clocks seen.counts

seen_on : (sub : ℕ) (b c : List Entry) (e f : Entry) → AreSeenAlike sub b c → switched sub e ≡ switched sub f → named sub e ≡ named sub f → policy_from e ≡ policy_from f → clock_in e ≡ clock_in f
    → counted_at sub b e ≡ counted_at sub c f → AreSeenAlike sub (b ++ e ∷ []) (c ++ f ∷ [])
seen_on sub b c e f seen switch name edit clock more = record {
  judged = record {
    served = last_alike (switched sub) false b c e f seen.judged.served switch;
    names = last_alike (named sub) [] b c e f seen.judged.names name;
    policies = last_alike policy_from no_policy b c e f seen.judged.policies edit;
    clocks = last_alike clock_in 0 b c e f seen.judged.clocks clock;
  };
  counts = counted_alike sub b c e f seen.counts more;
}

-- f of two records that are alike is the same
all_alike : {A : Type 0} (f : DataRecord → List A) (name : List ℕ) (domain : ℕ) (rules : List Rule) → ((r s : DataRecord) → IsAlike name domain rules r s → f r ≡ f s)
    → (rs ss : List DataRecord) → AreAllAlike name domain rules rs ss → flat_map f rs ≡ flat_map f ss
all_alike f name domain rules same [] [] alike = refl
all_alike f name domain rules same [] (s ∷ ss) alike = absurd alike
all_alike f name domain rules same (r ∷ rs) [] alike = absurd alike
all_alike {A} f name domain rules same (r ∷ rs) (s ∷ ss) alike =
    flat_map-cons f r rs ∙ ap (λ (t : List A). t ++ flat_map f rs) (same r s alike.0) ∙ ap (λ (t : List A). f s ++ t) (all_alike f name domain rules same rs ss alike.1) ∙ sym (flat_map-cons f s ss)

passes_alike : (name : List ℕ) (domain : ℕ) (policy : Policy) (clock : ℕ) (r s : DataRecord) → IsAlike name domain policy.rules r s → passing name domain policy clock r ≡ passing name domain policy clock s
passes_alike name domain policy clock r s is = ap passed (denied_is_secret name domain policy.rules r s is.alike)

-- what the verdicts on its fields leave of a record counts in no aggregate
none_counts : (aggregates : List Definition) (clock : ℕ) (q r : DataRecord) (verdicts : List ElementVerdict) → counts aggregates clock q (transformed r verdicts) ≡ []
none_counts aggregates clock q r verdicts = by_lost (first_lost r.template.scope removed) where
  removed : List RemovedField
  removed = removed_fields verdicts

  by_test : (b : Bool) → counts aggregates clock q (cond b (Withheld (first_rule_of removed) because.Empty) (Passed (remaining r verdicts) removed)) ≡ []
  by_test true = refl
  by_test false = refl

  by_lost : (lost : Option RemovedField) → counts aggregates clock q (unless_lost lost (remaining r verdicts) removed) ≡ []
  by_lost (Some field) = refl
  by_lost None = by_test (shortest_record (remaining_template r.template verdicts) == 0)

counts_by_action : (policy : Policy) (clock : ℕ) (r s : DataRecord) (action : RecordAction) (rule : ℕ) (passing : Outcome) → ((q : DataRecord) → counts policy.aggregates clock q passing ≡ [])
    → ((place : ℕ) → action ≡ Aggregate place → r ≡ s) → counts policy.aggregates clock r (by_action action rule passing) ≡ counts policy.aggregates clock s (by_action action rule passing)
counts_by_action policy clock r s Pass rule passing none same = none r ∙ sym (none s)
counts_by_action policy clock r s Withhold rule passing none same = refl
counts_by_action policy clock r s (Aggregate place) rule passing none same = ap (λ (q : DataRecord). counts policy.aggregates clock q (Aggregated rule place)) (same place refl)

counts_alike : (name : List ℕ) (domain : ℕ) (policy : Policy) (clock : ℕ) (r s : DataRecord) → IsAlike name domain policy.rules r s → counting name domain policy clock r ≡ counting name domain policy clock s
counts_alike name domain policy clock r s is =
    let verdict : RecordVerdict = record_verdict_of name domain r policy.rules in
    counts_by_action policy clock r s verdict.action verdict.rule (transformed r (verdicts_of name domain r policy.rules))
    (λ q. none_counts policy.aggregates clock q r (verdicts_of name domain r policy.rules)) is.counted
    ∙ ap (counts policy.aggregates clock s) (denied_is_secret name domain policy.rules r s is.alike)

-- what an entry gives, and what is seen behind it
record IsGivenAlike (sub : ℕ) (b c : List Entry) (e f : Entry) : Type 0 where
  pub given : given_at sub b e ≡ given_at sub c f
  pub seen : AreSeenAlike sub (b ++ e ∷ []) (c ++ f ∷ [])

message_alike : (sub : ℕ) (b c : List Entry) (session number s n : ℕ) (octets others : List ℕ) → AreSeenAlike sub b c → IsAlikeAt sub b c (Message session number octets) (Message s n others) → IsGivenAlike sub b c (Message session number octets) (Message s n others)
message_alike sub b c session number s n octets others seen is = record {
  given = brought_alike passing sub b c (domain_of octets) (domain_of others) first second seen.judged is.0
      (all_alike (passing name (domain_of octets) policy (clock_of b)) name (domain_of octets) policy.rules (passes_alike name (domain_of octets) policy (clock_of b)) first second is.1);
  seen = seen_on sub b c (Message session number octets) (Message s n others) seen refl refl refl refl
      (brought_alike counting sub b c (domain_of octets) (domain_of others) first second seen.judged is.0
      (all_alike (counting name (domain_of octets) policy (clock_of b)) name (domain_of octets) policy.rules (counts_alike name (domain_of octets) policy (clock_of b)) first second is.1));
} where
  name : List ℕ
  name = name_of sub b

  policy : Policy
  policy = policy_in_force b

  first : List DataRecord
  first = records_at b (Message session number octets)

  second : List DataRecord
  second = records_at c (Message s n others)

-- the same entry, that is no message
entry_same : (sub : ℕ) (b c : List Entry) (e f : Entry) → AreSeenAlike sub b c → e ≡ f → given_at sub b e ≡ given_at sub c e → counted_at sub b e ≡ counted_at sub c e → IsGivenAlike sub b c e f
entry_same sub b c e f seen is given more = record {
  given = given ∙ ap (given_at sub c) is;
  seen = seen_on sub b c e f seen (ap (switched sub) is) (ap (named sub) is) (ap policy_from is) (ap clock_in is) (more ∙ ap (counted_at sub c) is);
}

entry_alike : (sub : ℕ) (b c : List Entry) (e f : Entry) → AreSeenAlike sub b c → IsAlikeAt sub b c e f → IsGivenAlike sub b c e f
entry_alike sub b c (Message session number octets) (Message s n others) seen is = message_alike sub b c session number s n octets others seen is
entry_alike sub b c (Message session number octets) (Open s) seen is = absurd cc
entry_alike sub b c (Message session number octets) (Close s) seen is = absurd cc
entry_alike sub b c (Message session number octets) (Edit text) seen is = absurd cc
entry_alike sub b c (Message session number octets) (Subscribe s name) seen is = absurd cc
entry_alike sub b c (Message session number octets) (Unsubscribe s) seen is = absurd cc
entry_alike sub b c (Message session number octets) (Advance t) seen is = absurd cc
entry_alike sub b c (Message session number octets) (Cut s) seen is = absurd cc
entry_alike sub b c (Open s) f seen is = entry_same sub b c (Open s) f seen is refl refl
entry_alike sub b c (Close s) f seen is = entry_same sub b c (Close s) f seen is refl refl
entry_alike sub b c (Edit text) f seen is = entry_same sub b c (Edit text) f seen is refl refl
entry_alike sub b c (Subscribe s name) f seen is = entry_same sub b c (Subscribe s name) f seen is refl refl
entry_alike sub b c (Unsubscribe s) f seen is = entry_same sub b c (Unsubscribe s) f seen is refl refl
entry_alike sub b c (Advance t) f seen is = entry_same sub b c (Advance t) f seen is (ap (closed_by t) (running_alike sub b c seen)) refl
entry_alike sub b c (Cut s) f seen is = entry_same sub b c (Cut s) f seen is refl refl

alike_from : (sub : ℕ) (h g b c : List Entry) → AreSeenAlike sub b c → AreAlikeFrom sub b c h g → each_after (given_at sub) b h ≡ each_after (given_at sub) c g
alike_from sub [] [] b c seen alike = refl
alike_from sub [] (f ∷ g) b c seen alike = absurd alike
alike_from sub (e ∷ h) [] b c seen alike = absurd alike
alike_from sub (e ∷ h) (f ∷ g) b c seen alike =
    let one : IsGivenAlike sub b c e f = entry_alike sub b c e f seen alike.0 in
    ap (λ (t : List DataRecord). t ++ each_after (given_at sub) (b ++ e ∷ []) h) one.given
    ∙ ap (λ (t : List DataRecord). given_at sub c f ++ t) (alike_from sub h g (b ++ e ∷ []) (c ++ f ∷ []) one.seen alike.1)

pub denied_values : DeniedValuesNeverMatter
denied_values sub h g alike = alike_from sub h g [] [] (record { judged = record { served = refl; names = refl; policies = refl; clocks = refl }; counts = refl }) alike

-- ---- rules that name others

passed_unnumbered : (o : Outcome) → passed (unnumbered o) ≡ passed o
passed_unnumbered (Passed kept removed) = refl
passed_unnumbered (Aggregated rule definition) = refl
passed_unnumbered (Withheld rule reason) = refl

counts_unnumbered : (aggregates : List Definition) (clock : ℕ) (r : DataRecord) (o : Outcome) → counts aggregates clock r (unnumbered o) ≡ counts aggregates clock r o
counts_unnumbered aggregates clock r (Passed kept removed) = refl
counts_unnumbered aggregates clock r (Aggregated rule place) = refl
counts_unnumbered aggregates clock r (Withheld rule reason) = refl

-- both policies say the same of each record to the subscriber of this name, by other numbers of rules at most, and count it alike
record JudgeAlike (name : List ℕ) (p q : Policy) : Type 0 where
  pub outcomes : (domain : ℕ) (r : DataRecord) → unnumbered (disclosure_of name domain r p.rules) ≡ unnumbered (disclosure_of name domain r q.rules)
  pub aggregates : p.aggregates ≡ q.aggregates

judge_without : (name : List ℕ) (policy rest : Policy) → rest.rules ≡ concerning name policy.rules → rest.aggregates ≡ policy.aggregates → JudgeAlike name policy rest
judge_without name policy rest rules aggregates = record {
  outcomes = λ domain r. sym (others_never_matter name domain r policy.rules) ∙ ap (λ (rs : List Rule). unnumbered (disclosure_of name domain r rs)) (sym rules);
  aggregates = sym aggregates;
}

pass_same : (name : List ℕ) (domain : ℕ) (p q : Policy) (clock : ℕ) → JudgeAlike name p q → (r : DataRecord) → passing name domain p clock r ≡ passing name domain q clock r
pass_same name domain p q clock alike r =
    sym (passed_unnumbered (disclosure_of name domain r p.rules)) ∙ ap passed (alike.outcomes domain r) ∙ passed_unnumbered (disclosure_of name domain r q.rules)

count_same : (name : List ℕ) (domain : ℕ) (p q : Policy) (clock : ℕ) → JudgeAlike name p q → (r : DataRecord) → counting name domain p clock r ≡ counting name domain q clock r
count_same name domain p q clock alike r =
    sym (counts_unnumbered p.aggregates clock r (disclosure_of name domain r p.rules)) ∙ ap (counts p.aggregates clock r) (alike.outcomes domain r)
    ∙ counts_unnumbered p.aggregates clock r (disclosure_of name domain r q.rules)
    ∙ ap (λ (aggregates : List Definition). counts aggregates clock r (disclosure_of name domain r q.rules)) alike.aggregates

-- what decides of an entry is, for that name, the same behind both
record AreSeenSame (sub : ℕ) (name : List ℕ) (b c : List Entry) : Type 0 where
  pub served : is_served sub b ≡ is_served sub c
  pub names : name_of sub b ≡ name_of sub c
  pub called : is_served sub b ≡ true → name_of sub b ≡ name
  pub messages : (session : ℕ) → flat_map (message_in session) b ≡ flat_map (message_in session) c
  pub policies : JudgeAlike name (policy_in_force b) (policy_in_force c)
  pub clocks : clock_of b ≡ clock_of c
  pub counts : counted sub b ≡ counted sub c

still_called : (sub : ℕ) (name : List ℕ) (b : List Entry) (e : Entry) → IsCalled sub name e → (is_served sub b ≡ true → name_of sub b ≡ name) → unwrap_or (switched sub e) (is_served sub b) ≡ true → unwrap_or (named sub e) (name_of sub b) ≡ name
still_called sub name b (Subscribe s n) is was on = by_number (s == sub) refl on where
  by_number : (same : Bool) → (s == sub) ≡ same → (let at : Option Bool = cond same (Some true) None in unwrap_or at (is_served sub b) ≡ true) → (let at : Option (List ℕ) = cond same (Some n) None in unwrap_or at (name_of sub b) ≡ name)
  by_number true same on = is n (ap (λ (x : ℕ). Subscribe x n) (eqb-true s sub same))
  by_number false same on = was on
still_called sub name b (Unsubscribe s) is was on = by_number (s == sub) on where
  by_number : (same : Bool) → (let at : Option Bool = cond same (Some false) None in unwrap_or at (is_served sub b) ≡ true) → name_of sub b ≡ name
  by_number true on = absurd (false≢true on)
  by_number false on = was on
still_called sub name b (Cut s) is was on = by_number (s == sub) on where
  by_number : (same : Bool) → (let at : Option Bool = cond same (Some false) None in unwrap_or at (is_served sub b) ≡ true) → name_of sub b ≡ name
  by_number true on = absurd (false≢true on)
  by_number false on = was on
still_called sub name b _ is was on = was on

policies_on : (name : List ℕ) (p q : Policy) (o : Option Policy) → JudgeAlike name p q → JudgeAlike name (unwrap_or o p) (unwrap_or o q)
policies_on name p q None same = same
policies_on name p q (Some policy) same = record { outcomes = λ domain r. refl; aggregates = refl }

-- one entry more, which switches and names alike, sets the clock alike, brings the same message and counts the same of it
same_on : (sub : ℕ) (name : List ℕ) (b c : List Entry) (e f : Entry) → AreSeenSame sub name b c → IsCalled sub name e → switched sub e ≡ switched sub f → named sub e ≡ named sub f → ((session : ℕ) → message_in session e ≡ message_in session f)
    → JudgeAlike name (unwrap_or (policy_from e) (policy_in_force b)) (unwrap_or (policy_from f) (policy_in_force c)) → clock_in e ≡ clock_in f → counted_at sub b e ≡ counted_at sub c f → AreSeenSame sub name (b ++ e ∷ []) (c ++ f ∷ [])
same_on sub name b c e f seen is switch names sent policies clock more =
    let P : Policy → Policy → Type 0 = JudgeAlike name in
    record {
      served = last_alike (switched sub) false b c e f seen.served switch;
      names = last_alike (named sub) [] b c e f seen.names names;
      called = λ on. last_of-push (named sub) [] b e ∙ still_called sub name b e is seen.called (sym (last_of-push (switched sub) false b e) ∙ on);
      messages = λ session. flat_map-push (message_in session) b e ∙ ap (λ (ms : List (List ℕ)). flat_map (message_in session) b ++ ms) (sent session)
          ∙ ap (λ (ms : List (List ℕ)). ms ++ message_in session f) (seen.messages session) ∙ sym (flat_map-push (message_in session) c f);
      policies = subst (λ (q : Policy). P (policy_in_force (b ++ e ∷ [])) q) (sym (last_of-push policy_from no_policy c f)) (subst (λ (p : Policy). P p (unwrap_or (policy_from f) (policy_in_force c))) (sym (last_of-push policy_from no_policy b e)) policies);
      clocks = last_alike clock_in 0 b c e f seen.clocks clock;
      counts = counted_alike sub b c e f seen.counts more;
    }

-- what a message brings by f, which both policies answer alike for that name
brought_same : {A : Type 0} (f : List ℕ → ℕ → Policy → ℕ → DataRecord → List A) (sub : ℕ) (name : List ℕ) (b c : List Entry) (session : ℕ) (octets : List ℕ) → AreSeenSame sub name b c
    → ((r : DataRecord) → f name (domain_of octets) (policy_in_force b) (clock_of b) r ≡ f name (domain_of octets) (policy_in_force c) (clock_of b) r)
    → cond (is_served sub b) (flat_map (f (name_of sub b) (domain_of octets) (policy_in_force b) (clock_of b)) (records_meant (meaning_of (messages_of session b) octets))) []
    ≡ cond (is_served sub c) (flat_map (f (name_of sub c) (domain_of octets) (policy_in_force c) (clock_of c)) (records_meant (meaning_of (messages_of session c) octets))) []
brought_same {A} f sub name b c session octets seen same =
    by_test (is_served sub b) refl
    ∙ ap (λ (on : Bool). cond on (all (name_of sub b) (policy_in_force c) (clock_of b) (messages_of session b)) []) seen.served
    ∙ ap (λ (n : List ℕ). cond (is_served sub c) (all n (policy_in_force c) (clock_of b) (messages_of session b)) []) seen.names
    ∙ ap (λ (clock : ℕ). cond (is_served sub c) (all (name_of sub c) (policy_in_force c) clock (messages_of session b)) []) seen.clocks
    ∙ ap (λ (sent : List (List ℕ)). cond (is_served sub c) (all (name_of sub c) (policy_in_force c) (clock_of c) (reverse sent)) []) (seen.messages session) where
      all : List ℕ → Policy → ℕ → List (List ℕ) → List A
      all n policy clock older = flat_map (f n (domain_of octets) policy clock) (records_meant (meaning_of older octets))

      by_test : (on : Bool) → is_served sub b ≡ on → cond on (all (name_of sub b) (policy_in_force b) (clock_of b) (messages_of session b)) [] ≡ cond on (all (name_of sub b) (policy_in_force c) (clock_of b) (messages_of session b)) []
      by_test false off = refl
      by_test true on =
          ap (λ (n : List ℕ). all n (policy_in_force b) (clock_of b) (messages_of session b)) (seen.called on)
          ∙ flat_map_same (f name (domain_of octets) (policy_in_force b) (clock_of b)) (f name (domain_of octets) (policy_in_force c) (clock_of b)) same (records_meant (meaning_of (messages_of session b) octets))
          ∙ ap (λ (n : List ℕ). all n (policy_in_force c) (clock_of b) (messages_of session b)) (sym (seen.called on))

given_alike : (sub : ℕ) (name : List ℕ) (b c : List Entry) (e : Entry) → AreSeenSame sub name b c → given_at sub b e ≡ given_at sub c e
given_alike sub name b c (Message session number octets) seen = brought_same passing sub name b c session octets seen (pass_same name (domain_of octets) (policy_in_force b) (policy_in_force c) (clock_of b) seen.policies)
given_alike sub name b c (Advance t) seen = ap (closed_by t) (running_by sub b c seen.served seen.clocks seen.counts)
given_alike sub name b c _ seen = refl

more_alike : (sub : ℕ) (name : List ℕ) (b c : List Entry) (e : Entry) → AreSeenSame sub name b c → counted_at sub b e ≡ counted_at sub c e
more_alike sub name b c (Message session number octets) seen = brought_same counting sub name b c session octets seen (count_same name (domain_of octets) (policy_in_force b) (policy_in_force c) (clock_of b) seen.policies)
more_alike sub name b c _ seen = refl

-- what an entry gives, and what is seen behind it
record IsGivenSame (sub : ℕ) (name : List ℕ) (b c : List Entry) (e f : Entry) : Type 0 where
  pub given : given_at sub b e ≡ given_at sub c f
  pub seen : AreSeenSame sub name (b ++ e ∷ []) (c ++ f ∷ [])

given_same_entry : (sub : ℕ) (name : List ℕ) (b c : List Entry) (e f : Entry) → AreSeenSame sub name b c → IsCalled sub name e → e ≡ f → IsGivenSame sub name b c e f
given_same_entry sub name b c e f seen is same = subst (λ (x : Entry). IsGivenSame sub name b c e x) same (record {
  given = given_alike sub name b c e seen;
  seen = same_on sub name b c e e seen is refl refl (λ session. refl) (policies_on name (policy_in_force b) (policy_in_force c) (policy_from e) seen.policies) refl (more_alike sub name b c e seen);
})

given_less_edit : (sub : ℕ) (name : List ℕ) (b c : List Entry) (text less : List ℕ) → AreSeenSame sub name b c → LeavesOut name text less → IsGivenSame sub name b c (Edit text) (Edit less)
given_less_edit sub name b c text less seen l = record {
  given = refl;
  seen = same_on sub name b c (Edit text) (Edit less) seen (λ n is. absurd cc) refl refl (λ session. refl)
      (subst (λ (r : Result Policy PolicyFault). JudgeAlike name (unwrap_or (policy_or_none (policy_of text)) (policy_in_force b)) (unwrap_or (policy_or_none r) (policy_in_force c))) (sym l.spelled_rest)
      (subst (λ (r : Result Policy PolicyFault). JudgeAlike name (unwrap_or (policy_or_none r) (policy_in_force b)) l.rest) (sym l.spelled) (judge_without name l.policy l.rest l.rules l.aggregates))) refl refl;
}

given_same_or_less : (sub : ℕ) (name : List ℕ) (b c : List Entry) (e f : Entry) → AreSeenSame sub name b c → IsCalled sub name e → IsSameOrLess name e f → IsGivenSame sub name b c e f
given_same_or_less sub name b c e f seen is (inl same) = given_same_entry sub name b c e f seen is same
given_same_or_less sub name b c e f seen is (inr less) =
    subst (λ (x : Entry). IsGivenSame sub name b c e x) (sym less.second) (subst (λ (x : Entry). IsGivenSame sub name b c x (Edit less.less)) (sym less.first) (given_less_edit sub name b c less.text less.less seen less.leaves_out))

same_from : (sub : ℕ) (name : List ℕ) (h g b c : List Entry) → AreSeenSame sub name b c → AllByRecursion (IsCalled sub name) h → EntryByEntry (IsSameOrLess name) h g → each_after (given_at sub) b h ≡ each_after (given_at sub) c g
same_from sub name [] [] b c seen called pairs = refl
same_from sub name [] (f ∷ g) b c seen called pairs = absurd pairs
same_from sub name (e ∷ h) [] b c seen called pairs = absurd pairs
same_from sub name (e ∷ h) (f ∷ g) b c seen called pairs =
    let one : IsGivenSame sub name b c e f = given_same_or_less sub name b c e f seen called.0 pairs.0 in
    ap (λ (t : List DataRecord). t ++ each_after (given_at sub) (b ++ e ∷ []) h) one.given
    ∙ ap (λ (t : List DataRecord). given_at sub c f ++ t) (same_from sub name h g (b ++ e ∷ []) (c ++ f ∷ []) one.seen called.1 pairs.1)

pub rules_of_others : RulesOfOthersNeverMatter
rules_of_others sub name h g called pairs = same_from sub name h g [] [] (record { served = refl; names = refl; called = λ on. absurd (false≢true on); messages = λ session. refl; policies = record { outcomes = λ domain r. refl; aggregates = refl }; clocks = refl; counts = refl }) called pairs
