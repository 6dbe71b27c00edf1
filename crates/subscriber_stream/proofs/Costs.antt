-- How the octets of a message are added up, part by part and place by place of the queue.
use Rattle.std.proofs.Common.{◌≡◌, ℕ, suc, ◌+◌, ◌<◌, ◌≤◌, Bool, true, false, cond, leb, List, [], ◌∷◌, ◌++◌, length, take, drop, get_or, Option, None, refl, sym, ap, ◌∙◌, arith, take-add, length-append}
use Rattle.std.proofs.lemmas.List.{take-append-le, drop-drop, drop_at, take_all}
use Rattle.subscriber_stream.specs.declared.waiting.Waiting.{Waiting}
use Rattle.subscriber_stream.specs.Items.{Item, cost, data_set, last_after, total, fits}
use Rattle.subscriber_stream.specs.Waiting.{waiting_items, items_in, IsFilledRun, set_after}
use Rattle.subscriber_stream.proofs.Queues.{items_from, set_is_last}
use Rattle.ipfix_octets.specs.MessageFormat.{longest_message}

-- ---- parts behind others

last_after-append : (last : Option ℕ) (vs ws : List Item) → last_after last (vs ++ ws) ≡ last_after (last_after last vs) ws
last_after-append last [] ws = refl
last_after-append last (v ∷ vs) ws = last_after-append _ vs ws

pub total-append : (last : Option ℕ) (vs ws : List Item) → total last (vs ++ ws) ≡ total last vs + total (last_after last vs) ws
total-append last [] ws = omega arith
total-append last (v ∷ vs) ws = omega (arith, total-append (data_set v) vs ws)

fits-few : (target : ℕ) (last : Option ℕ) (octets : ℕ) (ws : List Item) → fits target last octets ws ≤ length ws
fits-few target last octets [] = omega arith
fits-few target last octets (w ∷ ws) = by_test (leb (octets + cost last w) target) (fits-few target (data_set w) (octets + cost last w) ws) where
  by_test : (b : Bool) → fits target (data_set w) (octets + cost last w) ws ≤ length ws → cond b (suc (fits target (data_set w) (octets + cost last w) ws)) 0 ≤ suc (length ws)
  by_test true few = omega arith
  by_test false few = omega arith

-- where all fit, those behind them may
fits-all : (target : ℕ) (last : Option ℕ) (octets : ℕ) (vs ws : List Item) → fits target last octets vs ≡ length vs → fits target last octets (vs ++ ws) ≡ length vs + fits target (last_after last vs) (octets + total last vs) ws
fits-all target last octets [] ws all =
    let same : octets ≡ octets + 0 = omega arith in
    omega (arith, ap (λ (n : ℕ). fits target last n ws) same)
fits-all target last octets (v ∷ vs) ws all = by_test (leb (octets + cost last v) target) all (fits-all target (data_set v) (octets + cost last v) vs ws) where
  by_test : (b : Bool) → cond b (suc (fits target (data_set v) (octets + cost last v) vs)) 0 ≡ suc (length vs)
      → (fits target (data_set v) (octets + cost last v) vs ≡ length vs → fits target (data_set v) (octets + cost last v) (vs ++ ws) ≡ length vs + fits target (last_after (data_set v) vs) ((octets + cost last v) + total (data_set v) vs) ws)
      → cond b (suc (fits target (data_set v) (octets + cost last v) (vs ++ ws))) 0 ≡ suc (length vs) + fits target (last_after (data_set v) vs) (octets + (cost last v + total (data_set v) vs)) ws
  by_test true all others =
      let sums : (octets + cost last v) + total (data_set v) vs ≡ octets + (cost last v + total (data_set v) vs) = omega arith in
      omega (arith, others (omega (arith, all)), ap (λ (n : ℕ). fits target (last_after (data_set v) vs) n ws) sums)
  by_test false all others = absurd (omega (arith, all))

-- where one does not, none behind it does
fits-some : (target : ℕ) (last : Option ℕ) (octets : ℕ) (vs ws : List Item) → fits target last octets vs < length vs → fits target last octets (vs ++ ws) ≡ fits target last octets vs
fits-some target last octets [] ws few = absurd (omega arith)
fits-some target last octets (v ∷ vs) ws few = by_test (leb (octets + cost last v) target) few (fits-some target (data_set v) (octets + cost last v) vs ws) where
  by_test : (b : Bool) → cond b (suc (fits target (data_set v) (octets + cost last v) vs)) 0 < suc (length vs)
      → (fits target (data_set v) (octets + cost last v) vs < length vs → fits target (data_set v) (octets + cost last v) (vs ++ ws) ≡ fits target (data_set v) (octets + cost last v) vs)
      → cond b (suc (fits target (data_set v) (octets + cost last v) (vs ++ ws))) 0 ≡ cond b (suc (fits target (data_set v) (octets + cost last v) vs)) 0
  by_test true few others = ap suc (others (omega (arith, few)))
  by_test false few others = refl

-- ---- along the queue

-- all parts up to this place were taken: so many parts, these octets, and this Data Set is the last
pub record IsRun (target : ℕ) (queue : List Waiting) (place parts octets : ℕ) (last : Option ℕ) : Type 0 where
  pub split : drop parts (items_in queue) ≡ items_in (drop place queue)
  pub whole : parts + length (items_in (drop place queue)) ≡ length (items_in queue)
  pub counted : octets ≡ 16 + total None (take parts (items_in queue))
  pub ends : last_after None (take parts (items_in queue)) ≡ last
  pub fit : parts + fits target last octets (items_in (drop place queue)) ≡ fits target None 16 (items_in queue)
  pub small : octets ≤ longest_message

pub IsRun-none : (target : ℕ) (queue : List Waiting) → IsRun target queue 0 0 16 None
IsRun-none target queue = record {
  split = refl;
  whole = omega arith;
  counted = refl;
  ends = refl;
  fit = omega arith;
  small = omega arith;
}

-- so many parts of those at the next place fit, and then the message has so many octets
pub record IsNext (target : ℕ) (queue : List Waiting) (place octets : ℕ) (last : Option ℕ) (w : Waiting) (more whole : ℕ) : Type 0 where
  pub within : place < length queue
  pub there : w ≡ get_or queue place w
  pub fit : more ≡ fits target last octets (waiting_items w)
  pub counted : whole ≡ octets + total last (take more (waiting_items w))
  pub small : whole ≤ longest_message

-- the parts that were taken, with those
with_next : (target : ℕ) (queue : List Waiting) (place parts octets : ℕ) (last : Option ℕ) (w : Waiting) (more whole : ℕ) → IsRun target queue place parts octets last → IsNext target queue place octets last w more whole
    → take (parts + more) (items_in queue) ≡ take parts (items_in queue) ++ take more (waiting_items w)
with_next target queue place parts octets last w more whole run next =
    let few : more ≤ length (waiting_items w) = omega (arith, next.fit, fits-few target last octets (waiting_items w)) in
    take-add parts more (items_in queue)
    ∙ ap (λ (ws : List Item). take parts (items_in queue) ++ take more ws) (run.split ∙ items_from queue place w next.within next.there)
    ∙ ap (λ (ws : List Item). take parts (items_in queue) ++ ws) (take-append-le more (waiting_items w) (items_in (drop (place + 1) queue)) few)

octets_with : (target : ℕ) (queue : List Waiting) (place parts octets : ℕ) (last : Option ℕ) (w : Waiting) (more whole : ℕ) → IsRun target queue place parts octets last → IsNext target queue place octets last w more whole
    → whole ≡ 16 + total None (take (parts + more) (items_in queue))
octets_with target queue place parts octets last w more whole run next =
    let all : total None (take (parts + more) (items_in queue)) ≡ total None (take parts (items_in queue)) + total last (take more (waiting_items w)) = ap (total None) (with_next target queue place parts octets last w more whole run next) ∙ total-append None (take parts (items_in queue)) (take more (waiting_items w)) ∙ ap (λ (l : Option ℕ). total None (take parts (items_in queue)) + total l (take more (waiting_items w))) run.ends in
    omega (arith, next.counted, run.counted, all)

-- no more parts than there are
pub few_with : (target : ℕ) (queue : List Waiting) (place parts octets : ℕ) (last : Option ℕ) (w : Waiting) (more whole : ℕ) → IsRun target queue place parts octets last → IsNext target queue place octets last w more whole → parts + more ≤ length (items_in queue)
few_with target queue place parts octets last w more whole run next =
    omega (arith, run.whole, next.fit, fits-few target last octets (waiting_items w), ap length (items_from queue place w next.within next.there), length-append (waiting_items w) (items_in (drop (place + 1) queue)))

-- the longest run, as the contract has it
pub record IsLongest (target : ℕ) (queue : List Waiting) (parts octets : ℕ) : Type 0 where
  pub parts_are : parts ≡ fits target None 16 (items_in queue)
  pub octets_are : octets ≡ 16 + total None (take parts (items_in queue))
  pub within : parts ≤ length (items_in queue)

-- where not all parts at a place fit, the run ends there
pub IsRun-over : (target : ℕ) (queue : List Waiting) (place parts octets : ℕ) (last : Option ℕ) (w : Waiting) (more whole : ℕ) → IsRun target queue place parts octets last → IsNext target queue place octets last w more whole → more < length (waiting_items w) → IsLongest target queue (parts + more) whole
IsRun-over target queue place parts octets last w more whole run next over =
    let here : fits target last octets (items_in (drop place queue)) ≡ more = ap (fits target last octets) (items_from queue place w next.within next.there) ∙ fits-some target last octets (waiting_items w) (items_in (drop (place + 1) queue)) (omega (arith, next.fit, over)) ∙ sym next.fit in
    record {
      parts_are = omega (arith, run.fit, here);
      octets_are = octets_with target queue place parts octets last w more whole run next;
      within = few_with target queue place parts octets last w more whole run next;
    }

pub IsRun-more : (target : ℕ) (queue : List Waiting) (place parts octets : ℕ) (last : Option ℕ) (w : Waiting) (more whole : ℕ) → IsRun target queue place parts octets last → IsNext target queue place octets last w more whole → IsFilledRun w → length (waiting_items w) ≤ more → IsRun target queue (place + 1) (parts + more) whole (set_after w)
IsRun-more target queue place parts octets last w more whole run next filled all =
    let rest = items_in (drop (place + 1) queue) in
    let from : items_in (drop place queue) ≡ waiting_items w ++ rest = items_from queue place w next.within next.there in
    let every : more ≡ length (waiting_items w) = omega (arith, all, next.fit, fits-few target last octets (waiting_items w)) in
    let full : take more (waiting_items w) ≡ waiting_items w = take_all more (waiting_items w) all in
    let octets_are : octets + total last (waiting_items w) ≡ whole = sym (next.counted ∙ ap (λ (ws : List Item). octets + total last ws) full) in
    let last_is : last_after last (waiting_items w) ≡ set_after w = set_is_last last w filled in
    let here : fits target last octets (items_in (drop place queue)) ≡ length (waiting_items w) + fits target (set_after w) whole rest = ap (fits target last octets) from ∙ fits-all target last octets (waiting_items w) rest (sym next.fit ∙ every) ∙ ap (λ (l : Option ℕ). length (waiting_items w) + fits target l (octets + total last (waiting_items w)) rest) last_is ∙ ap (λ (n : ℕ). length (waiting_items w) + fits target (set_after w) n rest) octets_are in
    record {
      split = sym (drop-drop more parts (items_in queue)) ∙ ap (drop more) (run.split ∙ from) ∙ drop_at (waiting_items w) rest more (sym every);
      whole = omega (arith, run.whole, ap length from, length-append (waiting_items w) rest, every);
      counted = octets_with target queue place parts octets last w more whole run next;
      ends = ap (last_after None) (with_next target queue place parts octets last w more whole run next) ∙ last_after-append None (take parts (items_in queue)) (take more (waiting_items w)) ∙ ap (λ (l : Option ℕ). last_after l (take more (waiting_items w))) run.ends ∙ ap (last_after last) full ∙ last_is;
      fit = omega (arith, run.fit, here, every);
      small = next.small;
    }
