-- The keys of a policy's aggregates have elements of the kinds for keys.
use Rattle.std.proofs.Common.{◌≡◌, true, List, [], ◌∷◌, ◌++◌, sym, subst}
use Rattle.std.specs.List.{AllByRecursion}
use Rattle.ipfix_element.specs.Kinds.{kind_of}
use Rattle.policy_text.specs.Classes.{is_key_kind}
use Rattle.policy_text.specs.Grammar.{AreAggregates, IsPolicy}
use Rattle.policy_text.specs.Policies.{Aggregate, PolicyMeaning}

abbrev pub HaveKeyKinds : List Aggregate → Type 0
HaveKeyKinds aggregates = AllByRecursion (λ a. AllByRecursion (λ e. is_key_kind (kind_of e) ≡ true) a.key) aggregates

kinds_of : (before aggregates : List Aggregate) → AreAggregates before aggregates → HaveKeyKinds aggregates
kinds_of before [] are = tt
kinds_of before (a ∷ aggregates) are = (are.0.key.kinds, kinds_of (before ++ a ∷ []) aggregates are.1)

pub key_kinds : (policy : PolicyMeaning) (aggregates : List Aggregate) → IsPolicy policy → aggregates ≡ policy.aggregates → HaveKeyKinds aggregates
key_kinds policy aggregates so is = subst HaveKeyKinds (sym is) (kinds_of [] policy.aggregates so.aggregates)
