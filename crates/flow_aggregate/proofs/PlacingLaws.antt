-- What is known of a record that is placed, and the key's octets of one.
use Rattle.std.proofs.Common.{◌≡◌, ℕ, ◌-◌, ◌<◌, ◌≤◌, ◌^◌, Bool, true, false, cond, List, [], ◌∷◌, ◌++◌, length, replicate, Option, Some, None, refl, ap, ◌∙◌, arith, length-append, is_some, nat_lt}
use Rattle.std.specs.Prelude.{unwrap_or}
use Rattle.std.specs.List.{list_all, flat_map, sum_by}
use Rattle.std.proofs.lemmas.Bool.{and_parts, ltb-true}
use Rattle.std.proofs.lemmas.List.{length-replicate}
use Rattle.std.proofs.lemmas.List.Sums.{sum_by-cons}
use Rattle.std.proofs.lemmas.List.Concat.{flat_map-cons}
use Rattle.ipfix_element.specs.Element.{Element}
use Rattle.ipfix_template.specs.DataRecord.{DataRecord, IsSound}
use Rattle.policy_text.specs.Policies.{Aggregate}
use Rattle.flow_aggregate.specs.declared.timing.Timing.TheVariants.{Placed, NoTime, NoKey}
use Rattle.flow_aggregate.specs.Values.{first_value, has_value, full_width}
use Rattle.flow_aggregate.specs.Placing.{flow_start, has_key, interval_start, in_interval, timing_at, timing_of}
use Rattle.flow_aggregate.specs.Groups.{wide_value, key_octets, HaveWidths, IsSummed, IsGroup}
use Rattle.flow_aggregate.specs.Running.{IsPlaced}
use Rattle.flow_aggregate.proofs.WidthLaws.{first_wide}

-- it starts before 2^62, and has the key
pub record CanCount (a : Aggregate) (r : DataRecord) : Type 0 where
  pub start : unwrap_or (flow_start r) 0 < 2 ^ 62
  pub key : has_key a.key r ≡ true

placed_by : (a : Aggregate) (r : DataRecord) (closed_to start : ℕ) (time : Option ℕ) → timing_at a r closed_to time ≡ Placed start
    → (unwrap_or time 0 < 2 ^ 62) × (has_key a.key r ≡ true)
placed_by a r closed_to start None is = absurd cc
placed_by a r closed_to start (Some time) is = by (nat_lt time (2 ^ 62)) (has_key a.key r) refl is refl where
  by : (early keyed : Bool) → nat_lt time (2 ^ 62) ≡ early
      → cond early (cond keyed (in_interval a closed_to (interval_start a time)) NoKey) NoTime ≡ Placed start → has_key a.key r ≡ keyed → (time < 2 ^ 62) × (has_key a.key r ≡ true)
  by true true early is keyed = (ltb-true time (2 ^ 62) early, keyed)
  by true false early is keyed = absurd cc
  by false keyed early is same = absurd cc

pub can_count : (a : Aggregate) (r : DataRecord) → IsPlaced a r → CanCount a r
unfolding timing_of
can_count a r placed =
    let parts = placed_by a r placed.0 placed.1 (flow_start r) placed.2 in
    record { start = parts.0; key = parts.1 }

-- ---- the key's octets

wide_by : (e : Element) (r : DataRecord) (v : Option (List ℕ)) → IsSound r → 1 ≤ full_width e → first_value e r ≡ v → is_some v ≡ true
    → length (replicate (full_width e - length (unwrap_or v [])) 0 ++ unwrap_or v []) ≡ full_width e
wide_by e r None sound some is there = absurd cc
wide_by e r (Some v) sound some is there =
    let wide = first_wide e r v sound is some in
    let zero_octet : ℕ = 0 in
    let all = length-append (replicate (full_width e - length v) zero_octet) v in
    let zeros = length-replicate (full_width e - length v) zero_octet in
    omega (arith, all, zeros, wide.1)

pub key_long : (key : List Element) (r : DataRecord) → IsSound r → HaveWidths key → has_key key r ≡ true → length (key_octets key r) ≡ sum_by full_width key
unfolding key_octets
key_long [] r sound widths has = refl
key_long (e ∷ es) r sound widths has =
    let parts = and_parts (has_value e r) (list_all (λ f. has_value f r) es) has in
    let here = wide_by e r (first_value e r) sound widths.0 refl parts.0 in
    let rest = key_long es r sound widths.1 parts.1 in
    let all = ap length (flat_map-cons (wide_value r) e es) ∙ length-append (wide_value r e) (flat_map (wide_value r) es) in
    omega (arith, here, rest, all, sum_by-cons full_width e es)

-- the group of a record that is placed
pub group_found : (a : Aggregate) (r : DataRecord) (d : Aggregate) (start : ℕ) (key : List ℕ) → IsPlaced a r → IsSound r → IsSummed a → d ≡ a
    → start ≤ unwrap_or (flow_start r) 0 → key ≡ key_octets a.key r → IsGroup (record { start = start; definition = d; key = key })
group_found a r d start key placed sound summed same early is-key =
    let can = can_count a r placed in
    let all : IsGroup (record { start = start; definition = a; key = key }) = record {
      summed = summed;
      start = omega (arith, early, can.start);
      key = ap length is-key ∙ key_long a.key r sound summed.widths can.key;
    } in
    rw same all
