-- Shares that grow, one subscription after another and one record after another.
use Rattle.std.proofs.Common.{◌≡◌, ℕ, zero, suc, ◌+◌, ◌-◌, ◌<◌, false, Result, Ok, Err, List, [], ◌∷◌, ◌++◌, length, map, take, drop, sym, ap, ◌∙◌, subst, arith, refl, length-append, append_assoc, append-nil, ◌≤◌}
use Rattle.std.specs.Prelude.{◌==◌, get_or, set, OnOk}
use Rattle.std.specs.List.{flat_map, enumerate_from}
use Rattle.std.proofs.lemmas.List.{map-set, map-append, length-map, take_more, take_all, length-take-le}
use Rattle.std.proofs.Math.ListN.{get_or-map, drop_of_length-le}
use Rattle.std.proofs.lemmas.List.Concat.{flat_map-append, flat_map-cons}
use Rattle.std.proofs.Math.Seq.{set-append_seam, get_or-append_seam, drop-cons, take-add}
use Rattle.mediator_history.proofs.HistoryLaws.{flat_map-push}
use Rattle.ipfix_template.specs.DataRecord.{DataRecord, kept_record}
use Rattle.ipfix_records.specs.Runs.{RunOf, run_records, records_of_runs}
use Rattle.flow_aggregate.specs.Counts.{count_of}
use Rattle.policy_text.specs.Policies.{Aggregate}
use Rattle.flow_anonymize.specs.Outcome as outcome
use Rattle.flow_anonymize.specs.declared.disclosure.Disclosure.TheVariants.{Passed, Aggregated, Withheld}
use Rattle.flow_anonymize.specs.Outcome.{Outcome, Decision}
use Rattle.mediator_history.specs.Counting.{counts}
use Rattle.mediator_history.specs.Auditing.{kept_back, removed_of}
use Rattle.mediator_shares.specs.InForce.{InForce}
use Rattle.mediator_tables.specs.declared.served.Served.{Served}
use Rattle.mediator_tables.specs.declared.tally.Tally.{Tally}
use Rattle.disclosure_audit.specs.Noting.{KeptNotes, and_more}
use Rattle.disclosure_audit.specs.declared.entry.RemovedField.{RemovedField}
use Rattle.disclosure_audit.specs.declared.entry.What.TheVariants.{Removed}
use Rattle.disclosure_audit.proofs.NotingLaws.{none_more, more_more, counted_more}
use Rattle.mediator_tables.specs.Adding.{tallied}
use Rattle.ipfix_template.specs.declared.template.Template.{Template}
use Rattle.mediator_shares.specs.Adding.{HasAdded, AddsCounts, Counted, Audience, progress_of, counted_of, audience_of}
use Rattle.mediator_shares.specs.Judges.{Judges}
use Rattle.mediator_shares.specs.Sharing.{outcome_by, given_by, added_by, kept_by, kept_back_by, counts_by, blank, share_by, shares_of, tallies_of, note_of, notes_on, noted_of_each, notes_of}

abbrev pub as_share : {X : Type 0} → ℕ → List X → ℕ × List X
as_share sub items = (sub, items)

-- a share with more items
abbrev pub grown : {X : Type 0} → ℕ × List X → List X → ℕ × List X
grown s more = (s.0, s.1 ++ more)

-- one share of several grows
pub share_grows : {S X : Type 0} (pick : S → ℕ × List X) (xs : List S) (place : ℕ) (was now : S) (more : List X) (before after : List (ℕ × List X)) (s : ℕ × List X)
    → map pick xs ≡ before ++ s ∷ after → length before ≡ place → was ≡ get_or xs place was → pick now ≡ grown (pick was) more
    → map pick (set xs place now) ≡ before ++ grown s more ∷ after
share_grows pick xs place was now more before after s split at is grows =
    map-set pick xs place now
    ∙ ap (λ l. set l place (pick now)) split
    ∙ ap (λ n. set (before ++ s ∷ after) n (pick now)) (sym at)
    ∙ set-append_seam before s after (pick now)
    ∙ ap (λ x. before ++ x ∷ after) (grows ∙ ap (λ p. grown p more) seen)
  where
    seen : pick was ≡ s
    seen = ap pick is ∙ sym (get_or-map pick xs place was) ∙ ap (λ l. get_or l place (pick was)) split
        ∙ ap (λ n. get_or (before ++ s ∷ after) n (pick was)) (sym at) ∙ get_or-append_seam before s after (pick was)

-- a share more, without a record
pub blank_step : {S X : Type 0} (pick : S → ℕ × List X) (xs xs2 : List S) (s : S) (served : List Served) (place : ℕ) (other : Served)
    → map pick xs ≡ map blank (take place served) → place < length served → xs2 ≡ xs ++ s ∷ []
    → pick s ≡ as_share (get_or served place other).sub [] → map pick xs2 ≡ map blank (take (place + 1) served)
blank_step {S} {X} pick xs xs2 s served place other so within grow same =
    let empty : Served → ℕ × List X = blank in
    ap (map pick) grow ∙ map-append pick xs (s ∷ [])
    ∙ ap (λ l. l ++ pick s ∷ []) so
    ∙ ap (λ x. map empty (take place served) ++ x ∷ []) same
    ∙ sym (map-append empty (take place served) (get_or served place other ∷ []))
    ∙ ap (map empty) (sym (take_more served place other within))

-- ---- results

pub on_ok_gives : {X E P Q : Type 0} (r : Result X E) → OnOk r P → (P → Q) → OnOk r Q
on_ok_gives (Ok x) p f = f p
on_ok_gives (Err e) p f = tt

-- ---- some records for one subscription after another

-- the shares of the subscriptions before a place have the records, and the others don't yet
abbrev pub IsSharing : {X : Type 0} → (List ℕ → DataRecord → List X) → List (ℕ × List X) → List (ℕ × List X) → List DataRecord → List Served → ℕ → Type 0
IsSharing gives old new rs served place = (done : List DataRecord) → old ≡ map (share_by gives done) served
    → new ≡ map (share_by gives (done ++ rs)) (take place served) ++ map (share_by gives done) (drop place served)

-- a share grows at a place, wherever the shares are split there
abbrev pub GrowsAt : {X : Type 0} → List (ℕ × List X) → List (ℕ × List X) → ℕ → List X → Type 0
GrowsAt {X} xs xs2 place more = (before after : List (ℕ × List X)) (s : ℕ × List X) → xs ≡ before ++ s ∷ after → length before ≡ place → xs2 ≡ before ++ grown s more ∷ after

-- where nothing changes, it grows by nothing
pub grows_nothing : {X : Type 0} (xs xs2 : List (ℕ × List X)) (place : ℕ) → xs2 ≡ xs → GrowsAt xs xs2 place []
grows_nothing xs xs2 place same before after s split at = same ∙ split ∙ ap (λ l. before ++ as_share s.0 l ∷ after) (sym (append-nil s.1))

one-more : (n : ℕ) → suc n ≡ n + 1
one-more n = omega arith

sharing_end : {X : Type 0} (gives : List ℕ → DataRecord → List X) (old new : List (ℕ × List X)) (rs : List DataRecord) (served : List Served) (place : ℕ)
    → IsSharing gives old new rs served place → length served ≤ place → (done : List DataRecord) → old ≡ map (share_by gives done) served
    → new ≡ map (share_by gives (done ++ rs)) served
sharing_end gives old new rs served place so over done start =
    so done start
    ∙ ap (λ l. map (share_by gives (done ++ rs)) l ++ map (share_by gives done) (drop place served)) (take_all place served over)
    ∙ ap (λ l. map (share_by gives (done ++ rs)) served ++ map (share_by gives done) l) (drop_of_length-le served over)
    ∙ append-nil (map (share_by gives (done ++ rs)) served)

pub more_served : (served : List Served) (place : ℕ) (who other : Served) → place < length served → who ≡ get_or served place other → take (place + 1) served ≡ take place served ++ who ∷ []
more_served served place who other within at = take_more served place other within ∙ ap (λ x. take place served ++ x ∷ []) (sym at)

rest_served : (served : List Served) (place : ℕ) (who other : Served) → place < length served → who ≡ get_or served place other → drop place served ≡ who ∷ drop (place + 1) served
rest_served served place who other within at =
    drop-cons served place other within ∙ ap (λ x. x ∷ drop (suc place) served) (sym at) ∙ ap (λ n. who ∷ drop n served) (one-more place)

sharing_step : {X : Type 0} (gives : List ℕ → DataRecord → List X) (old new new2 : List (ℕ × List X)) (rs : List DataRecord) (served : List Served) (place : ℕ) (who other : Served)
    → IsSharing gives old new rs served place → place < length served → who ≡ get_or served place other → GrowsAt new new2 place (flat_map (gives who.name.now) rs)
    → IsSharing gives old new2 rs served (place + 1)
sharing_step gives old new new2 rs served place who other so within at adds done start =
    let f1 = share_by gives (done ++ rs) in
    let f0 = share_by gives done in
    let split : new ≡ map f1 (take place served) ++ f0 who ∷ map f0 (drop (place + 1) served) =
    so done start ∙ ap (λ l. map f1 (take place served) ++ map f0 l) (rest_served served place who other within at) in
    let counted : length (map f1 (take place served)) ≡ place = length-map (take place served) f1 ∙ length-take-le place served (omega arith) in
    adds (map f1 (take place served)) (map f0 (drop (place + 1) served)) (f0 who) split counted
    ∙ ap (λ g. map f1 (take place served) ++ as_share who.sub g ∷ map f0 (drop (place + 1) served)) (sym (flat_map-append (gives who.name.now) done rs))
    ∙ sym (append_assoc (map f1 (take place served)) (f1 who ∷ []) (map f0 (drop (place + 1) served)))
    ∙ ap (λ l. l ++ map f0 (drop (place + 1) served)) (sym (map-append f1 (take place served) (who ∷ [])) ∙ ap (map f1) (sym (more_served served place who other within at)))

-- the same of what is added for the subscriptions before a place, and what was noted of them
pub record IsNoting (told tnew : List Tally) (before notes : KeptNotes) (domain : ℕ) (f : InForce) (index : ℕ) (r : DataRecord) (served : List Served) (place : ℕ) : Type 0 where
  pub tallies : IsSharing (added_by domain f) (map tallied told) (map tallied tnew) (r ∷ []) served place
  pub noting : notes ≡ and_more before (flat_map (notes_on domain f (index, r)) (take place served))
  pub stay : length tnew ≡ length served

pub noting_start : (t : List Tally) (n : KeptNotes) (domain : ℕ) (f : InForce) (index : ℕ) (r : DataRecord) (served : List Served) → length t ≡ length served → IsNoting t t n n domain f index r served 0
noting_start t n domain f index r served same = record { tallies = λ done start. start; noting = sym (none_more n); stay = same }

-- the same of what some records give
pub record IsGiving (old new : List (ℕ × List DataRecord)) (domain : ℕ) (f : InForce) (rs : List DataRecord) (served : List Served) (place : ℕ) : Type 0 where
  pub shares : IsSharing (given_by domain f) old new rs served place
  pub stay : length new ≡ length served

pub giving_start : (s : List (ℕ × List DataRecord)) (domain : ℕ) (f : InForce) (rs : List DataRecord) (served : List Served) → length s ≡ length served → IsGiving s s domain f rs served 0
giving_start s domain f rs served same = record { shares = λ done start. start; stay = same }

pub giving_step : (old new new2 : List (ℕ × List DataRecord)) (domain : ℕ) (f : InForce) (rs : List DataRecord) (served : List Served) (place : ℕ) (who other : Served)
    → IsGiving old new domain f rs served place → place < length served → who ≡ get_or served place other
    → GrowsAt new new2 place (flat_map (given_by domain f who.name.now) rs) → length new2 ≡ length new → IsGiving old new2 domain f rs served (place + 1)
giving_step old new new2 domain f rs served place who other so within at gives same = record {
  shares = sharing_step (given_by domain f) old new new2 rs served place who other so.shares within at gives;
  stay = same ∙ so.stay;
}

-- all have them
pub given_all : (old new : List (ℕ × List DataRecord)) (domain : ℕ) (f : InForce) (rs : List DataRecord) (served : List Served) (place : ℕ) → IsGiving old new domain f rs served place → length served ≤ place
    → (done : List DataRecord) → old ≡ shares_of domain f done served → new ≡ shares_of domain f (done ++ rs) served
given_all old new domain f rs served place so over = sharing_end (given_by domain f) old new rs served place so.shares over

-- all subscriptions have counted it
pub counted_all : (told tnew : List Tally) (before notes : KeptNotes) (domain : ℕ) (f : InForce) (index : ℕ) (r : DataRecord) (leaders served : List Served) (place : ℕ)
    → IsNoting told tnew before notes domain f index r served place → length served ≤ place → AddsCounts (counted_of told before) (counted_of tnew notes) index (r ∷ []) (audience_of domain f leaders served)
counted_all told tnew before notes domain f index r leaders served place so over = record {
  tallies = sharing_end (added_by domain f) (map tallied told) (map tallied tnew) (r ∷ []) served place so.tallies over;
  noting = so.noting ∙ ap (λ l. and_more before (flat_map (notes_on domain f (index, r)) l)) (take_all place served over) ∙ ap (and_more before) (sym (append-nil (noted_of_each domain f served (index, r))));
  stay = so.stay;
}

counts_same : (aggregates : List Aggregate) (clock : ℕ) (r : DataRecord) (o : Outcome) → counts_by aggregates clock r (outcome.decision_of o) ≡ counts aggregates clock r o
counts_same aggregates clock r (Passed kept removed) = refl
counts_same aggregates clock r (Aggregated rule definition) = refl
counts_same aggregates clock r (Withheld rule reason) = refl

kept_back_same : (aggregates : List Aggregate) (clock : ℕ) (r : DataRecord) (o : Outcome) → kept_back_by aggregates clock r (outcome.decision_of o) ≡ kept_back aggregates clock r o
kept_back_same aggregates clock r (Passed kept removed) = refl
kept_back_same aggregates clock r (Aggregated rule definition) = refl
kept_back_same aggregates clock r (Withheld rule reason) = refl

-- the note of fields that are removed is counted alone, where no more are kept
pub counted_removed : (k : KeptNotes) (index sub : ℕ) (removed : List RemovedField) → (length removed == 0) ≡ false → k.most ≤ length k.notes
    → and_more k (map (note_of index sub) (removed_of removed)) ≡ record { notes = k.notes; count = k.count + 1; most = k.most }
counted_removed k index sub [] some full = absurd cc
counted_removed k index sub (field ∷ fields) some full = counted_more k (note_of index sub (Removed (field ∷ fields))) full

-- one subscription more, for which this is decided of the record
pub noting_step : (told tnew tnew2 : List Tally) (before notes notes2 : KeptNotes) (domain : ℕ) (f : InForce) (index : ℕ) (r : DataRecord) (served : List Served) (place : ℕ) (who other : Served) (found : Decision)
    → IsNoting told tnew before notes domain f index r served place → place < length served → who ≡ get_or served place other → found ≡ outcome.decision_of (outcome_by domain f who.name.now r)
    → GrowsAt (map tallied tnew) (map tallied tnew2) place (map count_of (counts_by f.policy.aggregates f.clock r found))
    → length tnew2 ≡ length tnew → notes2 ≡ and_more notes (map (note_of index who.sub) (kept_back_by f.policy.aggregates f.clock r found))
    → IsNoting told tnew2 before notes2 domain f index r served (place + 1)
noting_step told tnew tnew2 before notes notes2 domain f index r served place who other found so within at is tallies same notes_grow = record {
  tallies = sharing_step (added_by domain f) (map tallied told) (map tallied tnew) (map tallied tnew2) (r ∷ []) served place who other so.tallies within at
      (λ b a s split l. tallies b a s split l ∙ ap (λ (d : Decision). b ++ grown s (map count_of (counts_by f.policy.aggregates f.clock r d)) ∷ a) is ∙ ap (λ c. b ++ grown s (map count_of c) ∷ a) (counts_same f.policy.aggregates f.clock r o)
      ∙ ap (λ l. b ++ grown s l ∷ a) (sym (append-nil (added_by domain f who.name.now r))));
  noting = notes_grow ∙ ap (λ (d : Decision). and_more notes (map (note_of index who.sub) (kept_back_by f.policy.aggregates f.clock r d))) is ∙ ap (λ k. and_more notes (map (note_of index who.sub) k)) (kept_back_same f.policy.aggregates f.clock r o)
      ∙ ap (λ n. and_more n (map (note_of index who.sub) (kept_by domain f who.name.now r))) so.noting
      ∙ more_more before (flat_map (notes_on domain f (index, r)) (take place served)) (notes_on domain f (index, r) who)
      ∙ ap (λ l. and_more before l) (sym (flat_map-push (notes_on domain f (index, r)) (take place served) who) ∙ ap (flat_map (notes_on domain f (index, r))) (sym (more_served served place who other within at)));
  stay = same ∙ so.stay;
}
  where
    o : Outcome
    o = outcome_by domain f who.name.now r

-- ---- the records of a run, one after another

-- the numbers go on
pub enumerate-append : {X : Type 0} (n : ℕ) (xs ys : List X) → enumerate_from n (xs ++ ys) ≡ enumerate_from n xs ++ enumerate_from (n + length xs) ys
enumerate-append n [] ys = ap (λ m. enumerate_from m ys) none where
  none : n ≡ n + 0
  none = omega arith
enumerate-append n (x ∷ xs) ys = ap (λ t. (n, x) ∷ t) (enumerate-append (n + 1) xs ys ∙ ap (λ m. enumerate_from (n + 1) xs ++ enumerate_from m ys) same) where
  same : n + 1 + length xs ≡ n + suc (length xs)
  same = omega arith

-- nothing is counted of no record
pub counted_none : (t : List Tally) (n : KeptNotes) (index : ℕ) (to : Audience) → length t ≡ length to.served → AddsCounts (counted_of t n) (counted_of t n) index [] to
counted_none t n index to same = record {
  tallies = λ done start. start ∙ ap (λ l. tallies_of to.domain to.in_force l to.served) (sym (append-nil done));
  noting = sym (none_more n);
  stay = same;
}

-- some records, and those behind them
pub counted_both : (a b c : Counted) (index next : ℕ) (p q : List DataRecord) (to : Audience) → AddsCounts a b index p to → AddsCounts b c next q to → next ≡ index + length p → AddsCounts a c index (p ++ q) to
counted_both a b c index next p q to first second numbered =
    let g = noted_of_each to.domain to.in_force to.served in record {
      tallies = λ done start. second.tallies (done ++ p) (first.tallies done start) ∙ ap (λ l. tallies_of to.domain to.in_force l to.served) (append_assoc done p q);
      noting = second.noting ∙ ap (λ l. and_more l (flat_map g (enumerate_from next q))) first.noting
          ∙ more_more a.notes (flat_map g (enumerate_from index p)) (flat_map g (enumerate_from next q))
          ∙ ap (and_more a.notes) (
          ap (λ i. flat_map g (enumerate_from index p) ++ flat_map g (enumerate_from i q)) numbered
          ∙ sym (flat_map-append g (enumerate_from index p) (enumerate_from (index + length p) q))
          ∙ ap (flat_map g) (sym (enumerate-append index p q))
          );
      stay = second.stay;
    }

-- the shares of the first so many records of a run, the first of which has this index
pub record IsRunning (old new : List (ℕ × List DataRecord)) (told tnew : List Tally) (before notes : KeptNotes) (domain : ℕ) (f : InForce) (first : ℕ) (rs : List DataRecord) (leaders served : List Served) (place : ℕ) : Type 0 where
  pub shares : (done : List DataRecord) → old ≡ shares_of domain f done leaders → new ≡ shares_of domain f (done ++ take place rs) leaders
  pub counting : AddsCounts (counted_of told before) (counted_of tnew notes) first (take place rs) (audience_of domain f leaders served)
  pub stay : length new ≡ length leaders

pub running_start : (old new : List (ℕ × List DataRecord)) (t : List Tally) (n : KeptNotes) (domain : ℕ) (f : InForce) (first : ℕ) (rs : List DataRecord) (leaders served : List Served) → new ≡ old → length old ≡ length leaders → length t ≡ length served
    → IsRunning old new t t n n domain f first rs leaders served 0
running_start old new t n domain f first rs leaders served is same same_too = record {
  shares = λ done start. is ∙ start ∙ ap (λ l. shares_of domain f l leaders) (sym (append-nil done));
  counting = counted_none t n first (audience_of domain f leaders served) same_too;
  stay = ap length is ∙ same;
}

pub running_step : (old : List (ℕ × List DataRecord)) (new new2 : Judges) (told tnew tnew2 : List Tally) (before notes notes2 : KeptNotes) (domain : ℕ) (f : InForce) (first : ℕ) (rs : List DataRecord) (leaders served : List Served) (from to : ℕ) (template : Template)
    → IsRunning old new.shares told tnew before notes domain f first rs leaders served from → from ≤ to → to ≤ length rs
    → HasAdded (progress_of new tnew notes) (progress_of new2 tnew2 notes2) (first + from) (take (to - from) (drop from rs)) template (audience_of domain f leaders served)
    → IsRunning old new2.shares told tnew2 before notes2 domain f first rs leaders served to
running_step old new new2 told tnew tnew2 before notes notes2 domain f first rs leaders served from to template so order within adds = record {
  shares = λ done start. adds.shares (done ++ take from rs) (so.shares done start) ∙ ap (λ l. shares_of domain f l leaders) (append_assoc done (take from rs) part ∙ ap (λ l. done ++ l) (sym more));
  counting = subst (λ l. AddsCounts (counted_of told before) (counted_of tnew2 notes2) first l (audience_of domain f leaders served)) (sym more)
      (counted_both (counted_of told before) (counted_of tnew notes) (counted_of tnew2 notes2) first (first + from) (take from rs) part (audience_of domain f leaders served) so.counting adds.counting here);
  stay = adds.stay;
}
  where
    part : List DataRecord
    part = take (to - from) (drop from rs)

    more : take to rs ≡ take from rs ++ part
    more = ap (λ n. take n rs) {x = to} {y = from + (to - from)} (omega (arith, order)) ∙ take-add from (to - from) rs

    here : first + from ≡ first + length (take from rs)
    here = omega (arith, length-take-le from rs (omega (arith, order, within)))

-- the shares of all records of a run
pub record HasRun (old new : List (ℕ × List DataRecord)) (told tnew : List Tally) (before notes : KeptNotes) (domain : ℕ) (f : InForce) (first : ℕ) (rs : List DataRecord) (leaders served : List Served) : Type 0 where
  pub shares : (done : List DataRecord) → old ≡ shares_of domain f done leaders → new ≡ shares_of domain f (done ++ rs) leaders
  pub tallies : (done : List DataRecord) → map tallied told ≡ tallies_of domain f done served → map tallied tnew ≡ tallies_of domain f (done ++ rs) served
  pub noting : notes ≡ and_more before (flat_map (noted_of_each domain f served) (enumerate_from first rs))

pub has_run : (old new : List (ℕ × List DataRecord)) (told tnew : List Tally) (before notes : KeptNotes) (domain : ℕ) (f : InForce) (first : ℕ) (rs : List DataRecord) (leaders served : List Served) (place : ℕ)
    → IsRunning old new told tnew before notes domain f first rs leaders served place → length rs ≤ place → HasRun old new told tnew before notes domain f first rs leaders served
has_run old new told tnew before notes domain f first rs leaders served place so over =
    let P : List DataRecord → Type 0 = λ l. HasRun old new told tnew before notes domain f first l leaders served in
    subst P (take_all place rs over) (record { shares = so.shares; tallies = so.counting.tallies; noting = so.counting.noting })

-- ---- one run after another

-- the shares of the records of the first so many runs
pub record AreShares (shares : List (ℕ × List DataRecord)) (tallies : List Tally) (start notes : KeptNotes) (domain : ℕ) (f : InForce) (runs : List RunOf) (leaders served : List Served) (place before : ℕ) : Type 0 where
  pub sharing : shares ≡ shares_of domain f (records_of_runs (take place runs)) leaders
  pub tallying : map tallied tallies ≡ tallies_of domain f (records_of_runs (take place runs)) served
  pub noting : notes ≡ and_more start (notes_of domain f (records_of_runs (take place runs)) served)
  pub counted : before ≡ length (records_of_runs (take place runs))
  pub stay : length shares ≡ length leaders
  pub stay_tallies : length tallies ≡ length served

pub shares_start : (s : List (ℕ × List DataRecord)) (t : List Tally) (n : KeptNotes) (domain : ℕ) (f : InForce) (runs : List RunOf) (leaders served : List Served)
    → s ≡ map blank leaders → map tallied t ≡ map blank served → AreShares s t n n domain f runs leaders served 0 0
shares_start s t n domain f runs leaders served blanks empty = record {
  sharing = blanks;
  tallying = empty;
  noting = sym (none_more n);
  counted = refl;
  stay = ap length blanks ∙ length-map leaders blank;
  stay_tallies = sym (length-map t tallied) ∙ ap length empty ∙ length-map served blank;
}

pub shares_step : (s s2 : List (ℕ × List DataRecord)) (t t2 : List Tally) (begin n n2 : KeptNotes) (domain : ℕ) (f : InForce) (runs : List RunOf) (leaders served : List Served) (place before more : ℕ) (run other : RunOf)
    → AreShares s t begin n domain f runs leaders served place before → place < length runs → run ≡ get_or runs place other → more ≡ length run.texts → HasRun s s2 t t2 n n2 domain f before (run_records run) leaders served
    → length s2 ≡ length leaders → length t2 ≡ length served → AreShares s2 t2 begin n2 domain f runs leaders served (place + 1) (before + more)
shares_step s s2 t t2 begin n n2 domain f runs leaders served place before more run other so within at many adds same same_too = record {
  sharing = adds.shares (records_of_runs (take place runs)) so.sharing ∙ ap (λ l. shares_of domain f l leaders) (sym grows);
  tallying = adds.tallies (records_of_runs (take place runs)) so.tallying ∙ ap (λ l. tallies_of domain f l served) (sym grows);
  noting = adds.noting ∙ ap (λ l. and_more l (flat_map (noted_of_each domain f served) (enumerate_from before (run_records run)))) so.noting
      ∙ more_more begin (notes_of domain f (records_of_runs (take place runs)) served) (flat_map (noted_of_each domain f served) (enumerate_from before (run_records run)))
      ∙ ap (λ l. and_more begin l) (
      ap (λ i. notes_of domain f (records_of_runs (take place runs)) served ++ flat_map (noted_of_each domain f served) (enumerate_from i (run_records run))) start
      ∙ sym (flat_map-append (noted_of_each domain f served) (enumerate_from 0 (records_of_runs (take place runs))) (enumerate_from (0 + length (records_of_runs (take place runs))) (run_records run)))
      ∙ ap (flat_map (noted_of_each domain f served)) (sym (enumerate-append 0 (records_of_runs (take place runs)) (run_records run)))
      ∙ ap (λ l. notes_of domain f l served) (sym grows)
      );
  counted = omega (arith, so.counted, many, ap length grows, length-append (records_of_runs (take place runs)) (run_records run), length-map run.texts (kept_record run.template));
  stay = same;
  stay_tallies = same_too;
}
  where
    grows : records_of_runs (take (place + 1) runs) ≡ records_of_runs (take place runs) ++ run_records run
    grows = ap records_of_runs (take_more runs place other within ∙ ap (λ x. take place runs ++ x ∷ []) (sym at)) ∙ flat_map-push run_records (take place runs) run

    start : before ≡ 0 + length (records_of_runs (take place runs))
    start = omega (arith, so.counted)

-- there are not more records in some runs than in all
pub fewer_records : (runs : List RunOf) (place : ℕ) (run other : RunOf) → place < length runs → run ≡ get_or runs place other → length (records_of_runs (take place runs)) + length run.texts ≤ length (records_of_runs runs)
fewer_records [] place run other within at = absurd (omega arith)
fewer_records (r ∷ runs) zero run other within at =
    let one = length-append (run_records r) (records_of_runs runs) in
    let all = ap length (flat_map-cons run_records r runs) in
    omega (arith, one, all, length-map r.texts (kept_record r.template), ap (λ (x : RunOf). length x.texts) at)
fewer_records (r ∷ runs) (suc place) run other within at =
    let rest = fewer_records runs place run other (omega (arith, within)) at in
    let all = ap length (flat_map-cons run_records r runs) ∙ length-append (run_records r) (records_of_runs runs) in
    let some = ap length (flat_map-cons run_records r (take place runs)) ∙ length-append (run_records r) (records_of_runs (take place runs)) in
    omega (arith, rest, all, some)

-- the shares of all records
pub record HasShares (shares : List (ℕ × List DataRecord)) (tallies : List Tally) (begin notes : KeptNotes) (domain : ℕ) (f : InForce) (records : List DataRecord) (leaders served : List Served) : Type 0 where
  pub shares_are : shares ≡ shares_of domain f records leaders
  pub tallies_are : map tallied tallies ≡ tallies_of domain f records served
  pub notes_are : notes ≡ and_more begin (notes_of domain f records served)

pub has_shares : (s : List (ℕ × List DataRecord)) (t : List Tally) (begin n : KeptNotes) (domain : ℕ) (f : InForce) (runs : List RunOf) (leaders served : List Served) (place before : ℕ)
    → AreShares s t begin n domain f runs leaders served place before → length runs ≤ place → HasShares s t begin n domain f (records_of_runs runs) leaders served
has_shares s t begin n domain f runs leaders served place before so over =
    let P : List RunOf → Type 0 = λ l. HasShares s t begin n domain f (records_of_runs l) leaders served in
    subst P (take_all place runs over) (record { shares_are = so.sharing; tallies_are = so.tallying; notes_are = so.noting })
