-- What is looked up in an index holds each rule that may match.
use Rattle.std.proofs.Common.{◌≡◌, Result, Ok, Err, IfOk, ℕ, zero, suc, ◌+◌, ◌<◌, ◌≤◌, Bool, true, List, [], ◌∷◌, ◌++◌, length, Some, None, IfSome, refl, sym, ap, ◌∙◌, subst, arith}
use Rattle.std.specs.Prelude.{slice_get}
use Rattle.std.specs.List.{Contains, range_with_len}
use Rattle.std.specs.List.Sorted.{IsNonDecreasing}
use Rattle.std.proofs.lemmas.Option.{slice_get_within, get_or_from_slice_get}
use Rattle.std.proofs.lemmas.List.Elements.{All-get_or}
use Rattle.std.proofs.lemmas.List.FromFn.{length-range_with_len, get_or-range_with_len}
use Rattle.ipfix_template.specs.DataRecord.{DataRecord}
use Rattle.policy_text.specs.declared.rule.Rule.{Rule}
use Rattle.policy_text.specs.Policies.{PolicyMeaning}
use Rattle.policy_text.specs.Grammar.{IsPolicy}
use Rattle.policy_judge.specs.declared.occurrences.Side.{Side}
use Rattle.policy_judge.specs.declared.occurrences.Side.TheVariants.{Source, Destination}
use Rattle.rule_table.specs.declared.addresses.Shape.{Shape}
use Rattle.rule_table.specs.Addresses.{shape_of, prefix_on}
use Rattle.rule_table.specs.OfPolicy.{AreOfPolicy}
use Rattle.rule_table.specs.Index.{entry, EntryStands, StandEach, HaveShapes, IsIndex}
use Rattle.rule_table.specs.Asked.{asked_marks}
use Rattle.rule_table.specs.Candidates.{AreCandidates, may_match, is_at, passes}
use Rattle.rule_table.proofs.AskedLaws.{asked_rule}

-- what holds of each rule holds of the one at a place
shape_there : (side : Side) (rules : List Rule) (shapes : List Shape) (k : ℕ) (rule : Rule) → HaveShapes side rules shapes → slice_get rules k ≡ Some rule
    → IfSome (prefix_on side rule) (λ prefix. Contains shapes (shape_of prefix))
shape_there side rules shapes k rule have e =
    let P : Rule → Type 0 = λ r. IfSome (prefix_on side r) (λ prefix. Contains shapes (shape_of prefix)) in
    subst P (get_or_from_slice_get rules k rule rule e) (All-get_or P rules k rule (slice_get_within rules k rule e) have)

-- the rule at a place that passes
pub record Standing (test : Rule → Bool) (rules : List Rule) (place : ℕ) : Type 0 where
  pub rule : Rule
  pub at : slice_get rules place ≡ Some rule
  pub is : test rule ≡ true

standing : (test : Rule → Bool) (rules : List Rule) (place : ℕ) → passes test rules place ≡ true → Standing test rules place
standing test rules place e =
    elim (slice_get rules place) as (λ o. slice_get rules place ≡ o → is_at test o ≡ true → Standing test rules place)
    [ None ↦ λ at e. absurd (cc) | Some rule ↦ λ at e. record { rule = rule; at = at; is = e } ] refl e

pub complete : (rules : List Rule) (entries : List ℕ) (ss ds : List Shape) (marks places name : List ℕ) (domain : ℕ) (r : DataRecord)
    → IsIndex rules entries ss ds → marks ≡ asked_marks name domain ss ds r
    → ((mark place : ℕ) → place < 4096 → Contains marks mark → Contains entries (entry mark place) → Contains places place)
    → IsNonDecreasing places
    → AreCandidates (record { rules = rules; name = name; domain = domain; flow_record = r }) places
complete rules entries ss ds marks places name domain r index are each up = record {
  few = index.few;
  ascending = up;
  all = λ place e.
      let s : Standing (may_match name domain r) rules place = standing (may_match name domain r) rules place e in
      let within = slice_get_within rules place s.rule s.at in
      let few : place < 4096 = omega (arith, within, index.few) in
      let under : EntryStands entries place s.rule = index.each place s.rule s.at in
      let P : List ℕ → Type 0 = λ ms. Contains ms under.mark in
      let marked = subst P (sym are) (asked_rule name domain ss ds r s.rule s.is (shape_there Source rules ss place s.rule index.from s.at) (shape_there Destination rules ds place s.rule index.to s.at) under.mark under.own) in
      each under.mark place few marked under.there;
}

-- the same over the lists as they were read
pub complete_read : (rules rules' : List Rule) (entries entries' : List ℕ) (ss ss' ds ds' : List Shape) (marks marks' places name name' : List ℕ) (domain : ℕ) (r : DataRecord)
    → IsIndex rules entries ss ds → rules' ≡ rules → entries' ≡ entries → ss' ≡ ss → ds' ≡ ds → marks' ≡ marks → name' ≡ name → marks ≡ asked_marks name' domain ss' ds' r
    → ((mark place : ℕ) → place < 4096 → Contains marks' mark → Contains entries' (entry mark place) → Contains places place)
    → IsNonDecreasing places
    → AreCandidates (record { rules = rules'; name = name; domain = domain; flow_record = r }) places
complete_read rules rules' entries entries' ss ss' ds ds' marks marks' places name name' domain r index e1 e2 e3 e4 e5 e6 are each up =
    let P1 : List Rule → Type 0 = λ x. IsIndex x entries ss ds in
    let P2 : List ℕ → Type 0 = λ x. IsIndex rules' x ss ds in
    let P3 : List Shape → Type 0 = λ x. IsIndex rules' entries' x ds in
    let P4 : List Shape → Type 0 = λ x. IsIndex rules' entries' ss' x in
    let P6 : List ℕ → Type 0 = λ x. AreCandidates (record { rules = rules'; name = x; domain = domain; flow_record = r }) places in
    let read = subst P4 (sym e4) (subst P3 (sym e3) (subst P2 (sym e2) (subst P1 (sym e1) index))) in
    subst P6 e6 (complete rules' entries' ss' ds' marks' places name' domain r read (e5 ∙ are) each up)

-- ---- all places

one_more : (a n j : ℕ) → a + n ≡ j → range_with_len a (suc n) ≡ range_with_len a n ++ j ∷ []
one_more a zero j e = let same : a ≡ j = omega (arith, e) in ap (λ x. x ∷ []) same
one_more a (suc n) j e = ap (λ xs. a ∷ xs) (one_more (a + 1) n j (omega (arith, e)))

pub place_more : (n : ℕ) (before new : List ℕ) → before ≡ range_with_len 0 n → new ≡ before ++ n ∷ [] → new ≡ range_with_len 0 (n + 1)
place_more n before new so_far grown =
    let next : suc n ≡ n + 1 = omega arith in
    grown ∙ ap (λ xs. xs ++ n ∷ []) so_far ∙ sym (one_more 0 n n (omega arith)) ∙ ap (range_with_len 0) next

-- the places up to a number are all below it, and ascend
all_from : (n : ℕ) → IsNonDecreasing (range_with_len 0 n)
all_from n = λ i k d le l.
    let below : k < n = omega (arith, l, length-range_with_len 0 n) in
    let one = get_or-range_with_len 0 n i d (omega (arith, le, below)) in
    let other = get_or-range_with_len 0 n k d below in
    omega (arith, one, other, le)

there_from : (n place : ℕ) → place < n → Contains (range_with_len 0 n) place
there_from n place l = (place, omega (arith, l, length-range_with_len 0 n), get_or-range_with_len 0 n place place l ∙ omega arith)

pub all_candidates : (rules : List Rule) (places : List ℕ) (n : ℕ) (name : List ℕ) (domain : ℕ) (r : DataRecord) → length rules ≤ 4096 → n ≡ length rules → places ≡ range_with_len 0 n
    → AreCandidates (record { rules = rules; name = name; domain = domain; flow_record = r }) places
all_candidates rules places n name domain r few whole are = rw are (record {
  few = few;
  ascending = all_from n;
  all = λ place e.
      let s : Standing (may_match name domain r) rules place = standing (may_match name domain r) rules place e in
      let within = slice_get_within rules place s.rule s.at in
      there_from n place (omega (arith, within, whole));
})

-- ---- a table that is built

pub built : (policy : PolicyMeaning) (read rules : List Rule) (entries : List ℕ) (ss ds : List Shape) → IsPolicy policy → read ≡ policy.rules → rules ≡ read
    → StandEach read entries → IsNonDecreasing entries → HaveShapes Source read ss → HaveShapes Destination read ds
    → AreOfPolicy rules × IsIndex rules entries ss ds
built policy read rules entries ss ds is same copied each up from to =
    let all : rules ≡ policy.rules = copied ∙ same in
    let over : List Rule → Type 0 = λ rs. AreOfPolicy rs × IsIndex rs entries ss ds in
    let P1 : List Rule → Type 0 = λ rs. StandEach rs entries in
    let P2 : List Rule → Type 0 = λ rs. HaveShapes Source rs ss in
    let P3 : List Rule → Type 0 = λ rs. HaveShapes Destination rs ds in
    subst over (sym all) (
      record { version = policy.version; aggregates = policy.aggregates; spelled = is.rules },
      record {
        few = is.few_rules;
        each = subst P1 same each;
        ascending = up;
        from = subst P2 same from;
        to = subst P3 same to;
      },
    )

pub from_both : {T E : Type 0} (r : Result T E) (P Q R : T → Type 0) → ((x : T) → P x → Q x → R x) → IfOk r P → IfOk r Q → IfOk r R
from_both (Ok x) P Q R all p q = all x p q
from_both (Err e) P Q R all p q = tt
