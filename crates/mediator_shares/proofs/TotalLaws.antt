-- How many records count, subscription by subscription.
use Rattle.std.proofs.Common.{◌≡◌, ℕ, ◌+◌, ◌<◌, ◌≤◌, List, [], ◌∷◌, length, map, drop, get_or, refl, sym, ap, ◌∙◌, subst}
use Rattle.std.proofs.lemmas.List.{drop_all, drop_more}
use Rattle.std.proofs.lemmas.List.Sums.{sum_by-cons}
use Rattle.flow_aggregate.specs.Counts.{Count}
use Rattle.mediator_tables.specs.declared.served.Served.{Served}
use Rattle.mediator_tables.specs.SubscriptionTable.{told}
use Rattle.mediator_tables.specs.declared.tally.Tally.{Tally}
use Rattle.mediator_tables.specs.Adding.{tallied}
use Rattle.mediator_shares.specs.Terms.{Terms, terms_of}
use Rattle.std.specs.Arc.{arc_value}
use Rattle.ipfix_template.specs.DataRecord.{DataRecord}
use Rattle.mediator_shares.specs.declared.judgement.Judgement.{Judgement}
use Rattle.mediator_shares.specs.Judgements.{IsJudgementOf}
use Rattle.mediator_shares.specs.Totals.{total_of, MayCountMoreThan}

-- what the tallies from a place on add
abbrev pub rest_of : List Tally → ℕ → ℕ
rest_of tallies place = total_of (map tallied (drop place tallies))

-- it is what the tally there adds, and what those behind it do
pub rest_at : (tallies : List Tally) (place : ℕ) (t : Tally) → place < length tallies → t ≡ get_or tallies place t
    → rest_of tallies place ≡ length t.counts.items + rest_of tallies (place + 1)
rest_at tallies place t low at =
    ap (λ ts. total_of (map tallied ts)) (drop_more tallies place t low ∙ ap (λ u. u ∷ drop (place + 1) tallies) (sym at)) ∙ sum_by-cons (λ (p : ℕ × List Count). length p.1) (tallied t) (map tallied (drop (place + 1) tallies))

pub rest_none : (tallies : List Tally) (place : ℕ) → length tallies ≤ place → rest_of tallies place ≡ 0
rest_none tallies place over = ap (λ ts. total_of (map tallied ts)) (drop_all place tallies over)

-- ---- terms are those of something in force

abbrev served_as : ℕ × List ℕ → Served
served_as p = record { sub = p.0; name = record { ref_ptr = (0, 0); now = p.1 } }

pub all_served : List (ℕ × List ℕ) → List Served
all_served [] = []
all_served (p ∷ ps) = served_as p ∷ all_served ps

told_so : (ps : List (ℕ × List ℕ)) → map told (all_served ps) ≡ ps
unfolding all_served
told_so [] = refl
told_so (p ∷ ps) = ap (λ rest. p ∷ rest) (told_so ps)

pub terms_are_some : (t : Terms) → t ≡ terms_of t.in_force (all_served t.served) t.most
terms_are_some t = ap (λ (served : List (ℕ × List ℕ)). terms_with t served) (sym (told_so t.served))
  where
    terms_with : Terms → List (ℕ × List ℕ) → Terms
    terms_with t served = record { in_force = t.in_force; served = served; most = t.most }

-- so these are terms on which more than so many count
pub counts_by_some : (most domain : ℕ) (records : List DataRecord) (j : Judgement) (tallies : List Tally) → tallies ≡ j.shares.tallies.items → most < total_of (map tallied tallies)
    → IsJudgementOf domain records j → MayCountMoreThan most domain records
counts_by_some most domain records j tallies are many is =
    let t = arc_value j.terms in
    let so = is.by_terms t.in_force (all_served t.served) t.most (terms_are_some t) in
    record { in_force = t.in_force; served = all_served t.served; many = subst (λ ts. most < total_of ts) (ap (map tallied) are ∙ so.tallies_are) many }
