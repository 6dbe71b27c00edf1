-- Sums of one record more.
use Rattle.std.proofs.Common.{◌≡◌, ℕ, ◌+◌, List, [], ◌∷◌, ◌++◌, refl, sym, ap, ◌∙◌, arith}
use Rattle.std.specs.Prelude.{unwrap_or}
use Rattle.std.specs.List.{sum_by}
use Rattle.std.proofs.lemmas.List.Sums.{sum_by-append, sum_by-cons}
use Rattle.ipfix_template.specs.DataRecord.{DataRecord}
use Rattle.flow_aggregate.specs.declared.sums.Sums.{Sums}
use Rattle.flow_aggregate.specs.Sums.{capped, octets_in, packets_in, flows_in, no_sums, counters_of, totals, plus}
use Rattle.flow_aggregate.specs.Groups.{Sample}
use Rattle.flow_aggregate.specs.Running.{flows_of, sums_over}

one_more : (f : DataRecord → ℕ) (rs : List DataRecord) (r : DataRecord) → capped (sum_by f (rs ++ r ∷ [])) ≡ capped (capped (sum_by f rs) + f r)
one_more f rs r =
    let all = sum_by-append f rs (r ∷ []) in
    let last = sum_by-cons f r [] in
    let none : sum_by f [] ≡ 0 = refl in
    omega (arith, all, last, none)

abbrev sums_from : ℕ → ℕ → ℕ → Sums
sums_from octets packets flows = record { octets = octets; packets = packets; flows = flows }

from_parts : (s t : Sums) → s.octets ≡ t.octets → s.packets ≡ t.packets → s.flows ≡ t.flows → s ≡ t
from_parts s t octets packets flows =
    ap (λ n. sums_from n s.packets s.flows) octets ∙ ap (λ n. sums_from t.octets n s.flows) packets ∙ ap (λ n. sums_from t.octets t.packets n) flows

pub totals_more : (rs : List DataRecord) (r : DataRecord) → totals (rs ++ r ∷ []) ≡ plus (totals rs) (counters_of r)
unfolding totals counters_of
totals_more rs r =
    from_parts (totals (rs ++ r ∷ [])) (plus (totals rs) (counters_of r)) (one_more octets_in rs r) (one_more packets_in rs r) (one_more flows_in rs r)

totals_none : totals [] ≡ no_sums
unfolding totals
totals_none = refl

-- the sums so far, as those of the records
pub so_far : (cs : List Sample) → unwrap_or (sums_over cs) no_sums ≡ totals (flows_of cs)
so_far [] = sym totals_none
so_far (c ∷ cs) = refl
