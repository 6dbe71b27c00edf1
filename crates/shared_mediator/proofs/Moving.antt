-- What a call adds to the counts.
use Rattle.std.proofs.Common.{◌≡◌, ℕ, ◌+◌, ◌≤◌, true, List, [], ◌∷◌, ◌++◌, length, drop, Result, Ok, Err, refl, sym, ap, ◌∙◌, subst, arith, append-nil, length-append}
use Rattle.std.specs.Prelude.{filter, not, ◌==◌, IfOk, OnOk, OnErr}
use Rattle.std.specs.List.{sum_by, AllByRecursion}
use Rattle.std.proofs.lemmas.Bool.{eq-eqb, or_right}
use Rattle.std.proofs.lemmas.List.Sums.{sum-map, sum_by_push}
use Rattle.disclosure_audit.specs.declared.entry.AuditEntry.{AuditEntry}
use Rattle.event_journal.specs.declared.entry.Entry.{Entry}
use Rattle.event_journal.specs.declared.entry.Entry.TheVariants.{Open, Close, Message, Edit, Subscribe, Unsubscribe, Advance}
use Rattle.mediator_history.specs.Numbers.{is_in}
use Rattle.mediator_history.specs.Subscriptions.{is_live, served}
use Rattle.mediator_history.specs.Cuts.{is_cut_by}
use Rattle.mediator_history.proofs.LastLaws.{all_of}
use Rattle.mediator_history.proofs.ListFilters.{is_in-append}
use Rattle.mediator_state.specs.declared.receipt.Receipt.{Receipt}
use Rattle.mediator_state.specs.declared.receipt.Status.{Status}
use Rattle.mediator_calls.specs.Mediation.{Mediation, live, waiting_at, stream_limits}
use Rattle.mediator_calls.specs.Calls.{GoesOn, Opens, Closes, with_cuts, Receives, Edits, Subscribes, Unsubscribes, Advances, IsStatusOf, Drains}
use Rattle.mediator_calls.specs.Sound.{IsSoundMediation}
use Rattle.mediator_calls.proofs.Places.{is_in-live}
use Rattle.shared_mediator.specs.Counted.{CountedMediation, with_counts, receipts_in, handed_at, handed_live, IsCounted, Counts}
use Rattle.shared_mediator.proofs.Living.{IsSilent, live_same, cuts_silent, live_begun, live_ended, all_live, live_apart}
use Rattle.shared_mediator.proofs.ReceiptCounts.{receipts_more, before_same, receipts_behind_cuts}
use Rattle.shared_mediator.proofs.Sums.{sums_alike, sum_without}
use Rattle.shared_mediator.proofs.Handing.{handed_kept, handed_none, handed_where}

-- ---- entries

-- a sound mediator, counted from a place in its journal, goes on with entries; so many records were handed to those that end
record Moves (old : Mediation) (from : ℕ) (more : List Entry) (ended : ℕ) (new : Mediation) : Type 0 where
  pub within : from ≤ length old.history
  pub history : new.history ≡ old.history ++ more
  pub live : handed_live new + ended ≡ handed_live old

counts_on : (old new : Mediation) (from gone left entries ended : ℕ) (more : List Entry) → Moves old from more ended new → receipts_in more ≡ entries → left ≡ gone + ended → Counts (with_counts old from gone) entries 0 ended (with_counts new from left)
counts_on old new from gone left entries ended more moves receipts is = record {
  from = refl;
  before = before_same from new.history old.history more moves.history moves.within;
  entries_are = receipts_more from new.history old.history more moves.history moves.within ∙ ap (λ (n : ℕ). receipts_in (drop from old.history) + n) receipts;
  handed_are = omega (arith, moves.live, is);
  gone_are = is;
}

counted_on : (old new : Mediation) (from gone left handed ended : ℕ) (more : List Entry) → IsCounted old from gone handed → Moves old from more ended new → left ≡ gone + ended → IsCounted new from left handed
counted_on old new from gone left handed ended more counted moves is = record {
  within = omega (arith, moves.within, ap (λ (h : List Entry). length h) moves.history, length-append old.history more);
  counted = omega (arith, counted.counted, moves.live, is);
}

-- what the live ones were handed, by what they were handed before
handed_then : (old new : Mediation) (more : List Entry) → IsSoundMediation old → GoesOn old more new → handed_live new ≡ sum_by (handed_at old) (live new.history)
handed_then old new more sound on =
    sum-map (handed_at new) (live new.history)
    ∙ sums_alike (handed_at new) (handed_at old) (live new.history) (all_of (handed_kept old new more sound on) (live new.history) (all_live new.history))

silent_moves : (old new : Mediation) (from : ℕ) (more : List Entry) → IsSoundMediation old → from ≤ length old.history → GoesOn old more new → AllByRecursion IsSilent more → Moves old from more 0 new
silent_moves old new from more sound within on silent =
    let same : live new.history ≡ live old.history = ap live on.history ∙ live_same old.history more silent in
    record {
      within = within;
      history = on.history;
      live = omega (arith, handed_then old new more sound on, ap (λ (subs : List ℕ). sum_by (handed_at old) subs) same, sum-map (handed_at old) (live old.history));
    }

-- a mediator that goes on, with nothing gone: what is counted then, and that it is counted
pub record Keeps (old new : Mediation) (from gone handed entries : ℕ) : Type 0 where
  pub counts : Counts (with_counts old from gone) entries 0 0 (with_counts new from gone)
  pub counted : IsCounted new from gone handed

-- whom an entry cuts
abbrev cut_by : Mediation → Entry → List ℕ
cut_by m entry = filter (is_cut_by (stream_limits m.limits) m.history entry (waiting_at m)) (served m.history)

keeps : (old new : Mediation) (from gone handed entries : ℕ) (more : List Entry) → IsCounted old from gone handed → Moves old from more 0 new → receipts_in more ≡ entries → Keeps old new from gone handed entries
keeps old new from gone handed entries more counted moves receipts = record {
  counts = counts_on old new from gone gone entries 0 more moves receipts (omega arith);
  counted = counted_on old new from gone gone handed 0 more counted moves (omega arith);
}

keeps_silent : (old new : Mediation) (from gone handed entries : ℕ) (more : List Entry) → IsSoundMediation old → IsCounted old from gone handed → GoesOn old more new → AllByRecursion IsSilent more → receipts_in more ≡ entries → Keeps old new from gone handed entries
keeps_silent old new from gone handed entries more sound counted on silent receipts =
    keeps old new from gone handed entries more counted (silent_moves old new from more sound counted.within on silent) receipts

-- an entry behind its cuts
keeps_with_cuts : (old new : Mediation) (from gone handed entries : ℕ) (entry : Entry) → IsSoundMediation old → IsCounted old from gone handed → GoesOn old (with_cuts old entry) new → IsSilent entry → receipts_in (entry ∷ []) ≡ entries → Keeps old new from gone handed entries
keeps_with_cuts old new from gone handed entries entry sound counted on silent receipts =
    keeps_silent old new from gone handed entries (with_cuts old entry) sound counted on (cuts_silent (cut_by old entry) entry silent) (receipts_behind_cuts (cut_by old entry) entry ∙ receipts)

-- ---- each call

pub after_open : (old new : Mediation) (from gone handed session : ℕ) → IsSoundMediation old → IsCounted old from gone handed → Opens old session new → Keeps old new from gone handed 0
after_open old new from gone handed session sound counted is =
    keeps_silent old new from gone handed 0 (Open session ∷ []) sound counted is.goes_on (record { switches = λ q. refl; begins_none = refl }, tt) refl

pub after_close : (old new : Mediation) (from gone handed session : ℕ) → IsSoundMediation old → IsCounted old from gone handed → Closes old session new → Keeps old new from gone handed 0
after_close old new from gone handed session sound counted is =
    keeps_silent old new from gone handed 0 (Close session ∷ []) sound counted is.goes_on (record { switches = λ q. refl; begins_none = refl }, tt) refl

pub after_edit : (old new : Mediation) (from gone handed revision : ℕ) (text : List ℕ) → IsSoundMediation old → IsCounted old from gone handed → Edits old text revision new → Keeps old new from gone handed 1
after_edit old new from gone handed revision text sound counted is =
    keeps_silent old new from gone handed 1 (Edit text ∷ []) sound counted is.goes_on (record { switches = λ q. refl; begins_none = refl }, tt) refl

pub after_receive : (old new : Mediation) (from gone handed session number : ℕ) (octets : List ℕ) (r : Receipt) → IsSoundMediation old → IsCounted old from gone handed → Receives old session number octets r new → Keeps old new from gone handed 1
after_receive old new from gone handed session number octets r sound counted is =
    keeps_with_cuts old new from gone handed 1 (Message session number octets) sound counted is.goes_on (record { switches = λ q. refl; begins_none = refl }) refl

pub after_advance : (old new : Mediation) (from gone handed t : ℕ) → IsSoundMediation old → IsCounted old from gone handed → Advances old t new → Keeps old new from gone handed 1
after_advance old new from gone handed t sound counted is =
    keeps_with_cuts old new from gone handed 1 (Advance t) sound counted is.goes_on (record { switches = λ q. refl; begins_none = refl }) refl

last_in : (n : ℕ) (xs : List ℕ) → is_in n (xs ++ n ∷ []) ≡ true
last_in n xs = is_in-append n xs (n ∷ []) ∙ or_right (is_in n xs) (is_in n (n ∷ [])) here where
  here : is_in n (n ∷ []) ≡ true
  here = rw (eq-eqb n n refl) refl

-- nothing is handed yet to one that begins
subscribed : (old new : Mediation) (from n : ℕ) (name : List ℕ) → IsSoundMediation old → from ≤ length old.history → Subscribes old name n new → Moves old from (Subscribe n name ∷ []) 0 new
subscribed old new from n name sound within is =
    let on : GoesOn old (Subscribe n name ∷ []) new = is.goes_on in
    let more : live new.history ≡ live old.history ++ n ∷ [] = ap live on.history ∙ live_begun old.history n name sound.numbered is.number in
    let begun : is_live n new.history ≡ true = sym (is_in-live n new.history) ∙ ap (is_in n) more ∙ last_in n (live old.history) in
    let none : handed_at old n ≡ 0 = sym (handed_kept old new (Subscribe n name ∷ []) sound on n begun) ∙ handed_none new n is.start in
    record {
      within = within;
      history = on.history;
      live = omega (arith, handed_then old new (Subscribe n name ∷ []) sound on, ap (λ (subs : List ℕ). sum_by (handed_at old) subs) more, sum_by_push (handed_at old) (live old.history) n, none, sum-map (handed_at old) (live old.history));
    }

pub after_subscribe : (old new : Mediation) (from gone handed n : ℕ) (name : List ℕ) → IsSoundMediation old → IsCounted old from gone handed → Subscribes old name n new → Keeps old new from gone handed 1
after_subscribe old new from gone handed n name sound counted is = keeps old new from gone handed 1 (Subscribe n name ∷ []) counted (subscribed old new from n name sound counted.within is) refl

unsubscribed : (old new : Mediation) (from sub : ℕ) → IsSoundMediation old → from ≤ length old.history → Unsubscribes old sub new → Moves old from (Unsubscribe sub ∷ []) (handed_at old sub) new
unsubscribed old new from sub sound within is =
    let on : GoesOn old (Unsubscribe sub ∷ []) new = is.goes_on in
    let fewer : live new.history ≡ filter (λ q. not (q == sub)) (live old.history) = ap live on.history ∙ live_ended old.history sub in
    record {
      within = within;
      history = on.history;
      live = omega (arith, handed_then old new (Unsubscribe sub ∷ []) sound on, ap (λ (subs : List ℕ). sum_by (handed_at old) subs) fewer, sum_without (handed_at old) sub (live old.history) (live_apart old.history sound.numbered) (is_in-live sub old.history ∙ is.live), sum-map (handed_at old) (live old.history));
    }

-- what is counted when a subscription ends that was handed so many, and that it is counted
pub record Ends (old new : Mediation) (from gone handed sub ended : ℕ) : Type 0 where
  pub fits : gone + ended ≤ handed
  pub counts : Counts (with_counts old from gone) 1 0 (handed_at old sub) (with_counts new from (gone + ended))
  pub counted : IsCounted new from (gone + ended) handed

pub after_end : (old new : Mediation) (from gone handed sub : ℕ) (status : Status) → IsSoundMediation old → IsCounted old from gone handed → IsStatusOf old sub status → Unsubscribes old sub new → Ends old new from gone handed sub status.handed
after_end old new from gone handed sub status sound counted stands is =
    let moves : Moves old from (Unsubscribe sub ∷ []) (handed_at old sub) new = unsubscribed old new from sub sound counted.within is in
    let same : status.handed ≡ handed_at old sub = stands.handed in
    record {
      fits = omega (arith, same, moves.live, counted.counted);
      counts = counts_on old new from gone (gone + status.handed) 1 (handed_at old sub) (Unsubscribe sub ∷ []) moves refl (omega (arith, same));
      counted = counted_on old new from gone (gone + status.handed) handed (handed_at old sub) (Unsubscribe sub ∷ []) counted moves (omega (arith, same));
    }

-- ---- draining

drained : (old new : Mediation) (from most : ℕ) (out : List AuditEntry) → from ≤ length old.history → Drains old most out new → Moves old from [] 0 new
drained old new from most out within is =
    let same : live new.history ≡ live old.history = ap live is.history in
    let each : (q : ℕ) → is_live q new.history ≡ true → handed_at new q ≡ handed_at old q = λ q on. handed_where old new q is.history (is.places q) in
    record {
      within = within;
      history = is.history ∙ sym (append-nil old.history);
      live = omega (arith, sum-map (handed_at new) (live new.history), sums_alike (handed_at new) (handed_at old) (live new.history) (all_of each (live new.history) (all_live new.history)), ap (λ (subs : List ℕ). sum_by (handed_at old) subs) same, sum-map (handed_at old) (live old.history));
    }

pub after_drain : (old new : Mediation) (from gone handed most : ℕ) (out : List AuditEntry) → IsCounted old from gone handed → Drains old most out new → Keeps old new from gone handed 0
after_drain old new from gone handed most out counted is = keeps old new from gone handed 0 [] counted (drained old new from most out counted.within is) refl

-- ---- results

-- what is kept where a call is done, or changed nothing, is kept
pub still : {X E : Type 0} {P : X → Type 0} (r : Result X E) (old new : Mediation) (from gone handed entries : ℕ) → IsCounted old from gone handed → IfOk r P → OnErr r (new ≡ old) → ((x : X) → P x → Keeps old new from gone handed entries) → IsCounted new from gone handed
still (Ok x) old new from gone handed entries counted ok same keep = (keep x ok).counted
still (Err e) old new from gone handed entries counted ok same keep = subst (λ (m : Mediation). IsCounted m from gone handed) (sym same) counted

pub still_done : {X E P : Type 0} (r : Result X E) (old new : Mediation) (from gone handed entries : ℕ) → IsCounted old from gone handed → OnOk r P → OnErr r (new ≡ old) → (P → Keeps old new from gone handed entries) → IsCounted new from gone handed
still_done (Ok x) old new from gone handed entries counted ok same keep = (keep ok).counted
still_done (Err e) old new from gone handed entries counted ok same keep = subst (λ (m : Mediation). IsCounted m from gone handed) (sym same) counted

pub counts : {X E : Type 0} {P : X → Type 0} (r : Result X E) (old new : Mediation) (from gone handed entries : ℕ) (was : CountedMediation) → with_counts old from gone ≡ was → IfOk r P → ((x : X) → P x → Keeps old new from gone handed entries) → OnOk r (Counts was entries 0 0 (with_counts new from gone))
counts (Ok x) old new from gone handed entries was is ok keep = subst (λ (k : CountedMediation). Counts k entries 0 0 (with_counts new from gone)) is (keep x ok).counts
counts (Err e) old new from gone handed entries was is ok keep = tt

pub counts_done : {X E P : Type 0} (r : Result X E) (old new : Mediation) (from gone handed entries : ℕ) (was : CountedMediation) → with_counts old from gone ≡ was → OnOk r P → (P → Keeps old new from gone handed entries) → OnOk r (Counts was entries 0 0 (with_counts new from gone))
counts_done (Ok x) old new from gone handed entries was is ok keep = subst (λ (k : CountedMediation). Counts k entries 0 0 (with_counts new from gone)) is (keep ok).counts
counts_done (Err e) old new from gone handed entries was is ok keep = tt
