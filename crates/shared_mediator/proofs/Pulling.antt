-- What a pull adds to the counts.
use Rattle.std.proofs.Common.{◌≡◌, ℕ, ◌+◌, ◌≤◌, ◌<◌, ◌^◌, List, [], ◌∷◌, length, take, drop, Option, Some, None, refl, sym, ap, ◌∙◌, subst, arith}
use Rattle.std.specs.List.{sum_by}
use Rattle.std.proofs.lemmas.List.Sums.{sum-map}
use Rattle.subscriber_stream.specs.Parts.{Part, parts, records_of_parts}
use Rattle.subscriber_stream.specs.Message.{next_message}
use Rattle.event_journal.specs.declared.entry.Entry.{Entry}
use Rattle.mediator_history.specs.Disclosed.{disclosed}
use Rattle.mediator_state.specs.declared.receipt.Status.{Status}
use Rattle.mediator_state.specs.declared.fault.Fault.{Fault as MediatorFault}
use Rattle.mediator_state.specs.declared.fault.Fault.TheVariants as fault
use Rattle.mediator_state.specs.Calls.{RefusesPull}
use Rattle.mediator_calls.specs.Mediation.{Mediation, live, place_at, waiting_at}
use Rattle.mediator_calls.specs.Calls.{Pulls, IsStatusOf}
use Rattle.mediator_calls.specs.Sound.{IsSoundMediation}
use Rattle.mediator_calls.proofs.Places.{is_in-live}
use Rattle.shared_mediator.specs.declared.handed.Handed.{Handed}
use Rattle.shared_mediator.specs.Counted.{CountedMediation, with_counts, receipts_in, handed_at, handed_live, IsCounted, Counts}
use Rattle.shared_mediator.specs.Handing.{records_next, HasCountRoom, HandsOut, RefusesHanding}
use Rattle.shared_mediator.proofs.Living.{live_apart}
use Rattle.shared_mediator.proofs.Sums.{sum_moved}
use Rattle.shared_mediator.proofs.Handing.{handed_moved, handed_others, next_wait}

-- the records of the message count as handed
pulled_live : (old new : Mediation) (sub now target : ℕ) (answer : Option (List ℕ)) → IsSoundMediation old → Pulls old sub now target answer new → handed_live new ≡ handed_live old + records_next old sub target
pulled_live old new sub now target answer sound is =
    sum-map (handed_at new) (live new.history)
    ∙ ap (λ (h : List Entry). sum_by (handed_at new) (live h)) is.history
    ∙ sum_moved (handed_at old) (handed_at new) sub (records_next old sub target) (live old.history) (live_apart old.history sound.numbered) (is_in-live sub old.history ∙ is.live) (handed_moved old new sub now target answer is) (handed_others old new sub now target answer is)
    ∙ ap (λ (n : ℕ). n + records_next old sub target) (sym (sum-map (handed_at old) (live old.history)))

-- what the statuses before a pull and after it tell of its records
pub record Tells (old : Mediation) (sub target : ℕ) (before after : Status) : Type 0 where
  pub records : after.handed ≡ before.handed + records_next old sub target
  pub wait : records_next old sub target ≤ before.queued

pub tells : (old new : Mediation) (sub now target : ℕ) (answer : Option (List ℕ)) (before after : Status) → IsStatusOf old sub before → Pulls old sub now target answer new → IsStatusOf new sub after → Tells old sub target before after
tells old new sub now target answer before after was is then_is =
    let first : before.handed ≡ handed_at old sub = was.handed in
    let last : after.handed ≡ handed_at new sub = then_is.handed in
    let waiting : before.queued ≡ waiting_at old sub = was.queued in
    record {
      records = last ∙ handed_moved old new sub now target answer is ∙ ap (λ (n : ℕ). n + records_next old sub target) (sym first);
      wait = omega (arith, waiting, next_wait old sub target);
    }

pub counted_after : (old new : Mediation) (from gone handed records sub now target : ℕ) (answer : Option (List ℕ)) → IsSoundMediation old → IsCounted old from gone handed → Pulls old sub now target answer new → records ≡ records_next old sub target → IsCounted new from gone (handed + records)
counted_after old new from gone handed records sub now target answer sound counted is count = record {
  within = omega (arith, counted.within, ap (λ (h : List Entry). length h) is.history);
  counted = omega (arith, counted.counted, count, pulled_live old new sub now target answer sound is);
}

counts_after : (old new : Mediation) (from gone records sub now target : ℕ) (answer : Option (List ℕ)) → IsSoundMediation old → Pulls old sub now target answer new → records ≡ records_next old sub target → Counts (with_counts old from gone) 0 records 0 (with_counts new from gone)
counts_after old new from gone records sub now target answer sound is count = record {
  from = refl;
  before = ap (λ (h : List Entry). take from h) is.history;
  entries_are = omega (arith, ap (λ (h : List Entry). receipts_in (drop from h)) is.history);
  handed_are = omega (arith, count, pulled_live old new sub now target answer sound is);
  gone_are = omega arith;
}

-- where there is no next message nothing waits
none_wait : (now target handed : ℕ) (ps : List Part) → None ≡ next_message now target handed ps → length (records_of_parts ps) ≡ 0
unfolding next_message
none_wait now target handed [] is = refl
none_wait now target handed (part ∷ ps) is = absurd cc

none_next : (m : Mediation) (sub now target : ℕ) (new : Mediation) → Pulls m sub now target None new → 0 ≡ records_next m sub target
none_next m sub now target new is =
    let ps = drop (place_at m sub) (parts (disclosed sub m.history)) in
    let none : waiting_at m sub ≡ 0 = none_wait now target (length (records_of_parts (take (place_at m sub) (parts (disclosed sub m.history))))) ps is.message in
    omega (arith, none, next_wait m sub target)

pub hands_some : (old new : Mediation) (from gone sub now target : ℕ) (was : CountedMediation) (answer : Option (List ℕ)) (h : Handed) → with_counts old from gone ≡ was → IsSoundMediation old → HasCountRoom (with_counts old from gone) sub → Pulls old sub now target answer new → answer ≡ Some h.message → h.records ≡ records_next old sub target → HandsOut was sub now target (Some h) (with_counts new from gone)
hands_some old new from gone sub now target was answer h is sound room pulled some count =
    subst (λ (k : CountedMediation). HandsOut k sub now target (Some h) (with_counts new from gone)) is out where
      out : HandsOut (with_counts old from gone) sub now target (Some h) (with_counts new from gone)
      out = record {
        room = room;
        pulls = subst (λ (a : Option (List ℕ)). Pulls old sub now target a new) some pulled;
        records = count;
        counts = counts_after old new from gone h.records sub now target answer sound pulled count;
      }

pub hands_none : (old new : Mediation) (from gone sub now target : ℕ) (was : CountedMediation) (answer : Option (List ℕ)) → with_counts old from gone ≡ was → IsSoundMediation old → HasCountRoom (with_counts old from gone) sub → Pulls old sub now target answer new → answer ≡ None → HandsOut was sub now target None (with_counts new from gone)
hands_none old new from gone sub now target was answer is sound room pulled none =
    let nothing : Pulls old sub now target None new = subst (λ (a : Option (List ℕ)). Pulls old sub now target a new) none pulled in
    let count : 0 ≡ records_next old sub target = none_next old sub now target new nothing in
    let out : HandsOut (with_counts old from gone) sub now target None (with_counts new from gone) = record {
      room = room;
      pulls = nothing;
      records = count;
      counts = counts_after old new from gone 0 sub now target answer sound pulled count;
    } in
    subst (λ (k : CountedMediation). HandsOut k sub now target None (with_counts new from gone)) is out

-- ---- that the count has room

pub has_count_room : (core : Mediation) (from gone handed sub queued : ℕ) → IsCounted core from gone handed → queued ≡ waiting_at core sub → handed + queued < 2 ^ 64 → HasCountRoom (with_counts core from gone) sub
has_count_room core from gone handed sub queued counted is room = omega (arith, counted.counted, is, room)

pub refuses_handing : (why : MediatorFault) (c was : CountedMediation) (sub : ℕ) → c ≡ was → RefusesPull why c.core.history sub → HasCountRoom c sub → RefusesHanding why was sub
refuses_handing why c was sub is refused room = subst (λ (k : CountedMediation). RefusesHanding why k sub) is (by_fault why refused) where
  by_fault : (why : MediatorFault) → RefusesPull why c.core.history sub → RefusesHanding why c sub
  by_fault fault.OutOfMemory r = (r, room)
  by_fault fault.UnknownSub r = r
  by_fault _ r = absurd r
