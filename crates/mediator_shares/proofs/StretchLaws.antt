-- Records side by side of the same classes, of which the same is decided and kept back.
use Rattle.std.proofs.Common.{◌≡◌, ◌<◌, ◌≤◌, ◌+◌, ◌-◌, ℕ, zero, suc, List, [], ◌∷◌, ◌++◌, length, map, take, drop, get_or, Option, Some, None, IsSome, refl, sym, ap, ◌∙◌, subst, arith, append-nil, length-drop}
use mathlib.Core.Logic.{inl, inr, ◌⊎◌}
use Rattle.std.specs.List.{flat_map, enumerate_from, AllByRecursion}
use Rattle.std.proofs.lemmas.List.{get_or-map, length-map, length-take-le, map-append}
use Rattle.std.proofs.lemmas.List.Concat.{flat_map-append}
use Rattle.std.proofs.Math.Seq.{drop-cons}
use Rattle.std.proofs.SliceLists.{all_by_recursion_push}
use Rattle.std.proofs.lemmas.Bool.{cases_lt}
use Rattle.ipfix_template.specs.DataRecord.{DataRecord, kept_record}
use Rattle.ipfix_records.specs.Runs.{RunOf, run_records}
use Rattle.disclosure_audit.specs.Noting.{KeptNotes, and_more, note_at, notes_of_stretch}
use Rattle.disclosure_audit.specs.declared.entry.What.{What}
use Rattle.disclosure_audit.specs.declared.entry.KeptBack.{KeptBack}
use Rattle.flow_aggregate.specs.Counts.{Count, count_of}
use Rattle.policy_text.specs.Policies.{Aggregate}
use Rattle.flow_anonymize.specs.declared.disclosure.Disclosure.TheVariants.{Passed, Aggregated, Withheld}
use Rattle.flow_anonymize.specs.declared.record_classes.RecordClasses.{RecordClasses}
use Rattle.flow_anonymize.specs.Outcome.{Outcome, Decision, decision_of}
use Rattle.policy_judge.specs.Occurrences.{sources, destinations}
use Rattle.rule_table.specs.Classes.{class_key}
use Rattle.rule_table.specs.Near.{HaveSameKeys, HasKeys}
use Rattle.flow_anonymize.specs.Classes.{both, classes_of}
use Rattle.flow_anonymize.specs.Parts.{record_at, records_between}
use Rattle.flow_anonymize.proofs.PartLaws.{part_more, part_none}
use Rattle.mediator_history.specs.Auditing.{kept_back}
use Rattle.mediator_history.specs.Counting.{counts}
use Rattle.mediator_tables.specs.declared.served.Served.{Served}
use Rattle.mediator_tables.specs.declared.tally.Tally.{Tally}
use Rattle.mediator_shares.specs.InForce.{InForce}
use Rattle.mediator_shares.specs.Sharing.{outcome_by, added_by, note_of, notes_on, noted_of_each, tallies_of}
use Rattle.mediator_shares.specs.Adding.{AddsCounts, Counted, counted_of, audience_of}
use Rattle.mediator_shares.specs.Deciding.{decision_for, kept_whatever, kept_from, IsWhatever, AreKeptAlike}
use Rattle.mediator_shares.proofs.SharingLaws.{as_share, more_served, counted_none, counted_both}

-- ---- how far the same classes go

-- those from a place on that stand before another have these classes, and the record there has the next ones
pub record GoesOn (cuts : List ℕ) (run : RunOf) (from to : ℕ) (classes next : Option RecordClasses) : Type 0 where
  pub some : from < to
  pub within : to ≤ length run.texts
  pub alike : (i : ℕ) → from ≤ i → i < to → classes ≡ classes_of cuts (record_at run i)
  pub alone : classes ≡ None → to ≡ from + 1
  pub next_is : to < length run.texts → next ≡ classes_of cuts (record_at run to)
  pub over : length run.texts ≤ to → next ≡ None

none_is_some : (X : Type 0) → IsSome {T = X} None → ⊥
none_is_some X some = cc

-- records with the keys of another have its classes
same_classes : (cuts : List ℕ) (one other : DataRecord) → HaveSameKeys cuts one other → classes_of cuts other ≡ classes_of cuts one
same_classes cuts one other same =
    ap (λ key. both key (class_key cuts (destinations other))) (sym same.sources) ∙ ap (both (class_key cuts (sources one))) (sym same.destinations)

classes_known : (from to : Option ℕ) → IsSome from → IsSome to → both from to ≡ None → ⊥
classes_known None to some other none = none_is_some ℕ some
classes_known (Some from) None some other none = none_is_some ℕ other
classes_known (Some from) (Some to) some other none = absurd cc

pub goes_start : (cuts : List ℕ) (run : RunOf) (from to : ℕ) (classes next : Option RecordClasses) → from < to → to ≤ length run.texts → classes ≡ classes_of cuts (record_at run from)
    → ((i : ℕ) → from ≤ i → i < to → HaveSameKeys cuts (record_at run i) (record_at run from)) → (from + 1 < to → HasKeys cuts (record_at run from))
    → (to < length run.texts → next ≡ classes_of cuts (record_at run to)) → (length run.texts ≤ to → next ≡ None) → GoesOn cuts run from to classes next
goes_start cuts run from to classes next some within is same known value over = record {
  some = some;
  within = within;
  alike = λ i low high. is ∙ same_classes cuts (record_at run i) (record_at run from) (same i low high);
  alone = λ none. is_alone none (cases_lt (from + 1) to);
  next_is = value;
  over = over;
}
  where
    is_alone : classes ≡ None → (from + 1 < to) ⊎ (to ≤ from + 1) → to ≡ from + 1
    is_alone none (inl l) = let keys = known l in absurd (classes_known (class_key cuts (sources (record_at run from))) (class_key cuts (destinations (record_at run from))) keys.sources keys.destinations (sym is ∙ none))
    is_alone none (inr l) = omega (arith, l, some)

-- where one comes next, there is a record
there_next : (cuts : List ℕ) (run : RunOf) (from to : ℕ) (classes next : Option RecordClasses) → GoesOn cuts run from to classes next → IsSome next → (to < length run.texts) ⊎ (length run.texts ≤ to) → to < length run.texts
there_next cuts run from to classes next so some (inl l) = l
there_next cuts run from to classes next so some (inr l) = absurd (none_is_some RecordClasses (subst IsSome (so.over l) some))

pub goes_step : (cuts : List ℕ) (run : RunOf) (from to : ℕ) (classes next next2 : Option RecordClasses) → GoesOn cuts run from to classes next → next ≡ classes → IsSome next
    → (to + 1 < length run.texts → next2 ≡ classes_of cuts (record_at run (to + 1))) → (length run.texts ≤ to + 1 → next2 ≡ None) → GoesOn cuts run from (to + 1) classes next2
goes_step cuts run from to classes next next2 so same some value over = record {
  some = omega (arith, so.some);
  within = omega (arith, there);
  alike = λ i low high. is_alike i low (cases_lt i to) high;
  alone = λ none. absurd (none_is_some RecordClasses (subst IsSome (same ∙ none) some));
  next_is = value;
  over = over;
}
  where
    there : to < length run.texts
    there = there_next cuts run from to classes next so some (cases_lt to (length run.texts))

    is_alike : (i : ℕ) → from ≤ i → (i < to) ⊎ (to ≤ i) → i < to + 1 → classes ≡ classes_of cuts (record_at run i)
    is_alike i low (inl l) high = so.alike i low l
    is_alike i low (inr l) high = sym same ∙ so.next_is there ∙ ap (λ k. classes_of cuts (record_at run k)) {x = to} {y = i} (omega (arith, l, high))

-- there is a record where one comes next
pub is_there : (cuts : List ℕ) (run : RunOf) (from to : ℕ) (classes next : Option RecordClasses) → GoesOn cuts run from to classes next → IsSome next → to < length run.texts
is_there cuts run from to classes next so some = there_next cuts run from to classes next so some (cases_lt to (length run.texts))

-- fewer records are left
pub fewer_left : (cuts : List ℕ) (run : RunOf) (from to : ℕ) (classes next : Option RecordClasses) → GoesOn cuts run from to classes next → IsSome next → length run.texts - (to + 1) < length run.texts - to
fewer_left cuts run from to classes next so some = omega (arith, there_next cuts run from to classes next so some (cases_lt to (length run.texts)))

-- ---- what is kept back of each alike

-- by what was decided of a record for one that is served
kept_here : (aggregates : List Aggregate) (clock : ℕ) (r : DataRecord) (o : Outcome) → IsWhatever (decision_of o) → kept_back aggregates clock r o ≡ kept_whatever (decision_of o)
kept_here aggregates clock r (Passed kept removed) so = refl
kept_here aggregates clock r (Aggregated rule place) so = absurd so
kept_here aggregates clock r (Withheld rule reason) so = refl

counts_nothing : (aggregates : List Aggregate) (clock : ℕ) (r : DataRecord) (o : Outcome) → IsWhatever (decision_of o) → counts aggregates clock r o ≡ []
counts_nothing aggregates clock r (Passed kept removed) so = refl
counts_nothing aggregates clock r (Aggregated rule place) so = absurd so
counts_nothing aggregates clock r (Withheld rule reason) so = refl

map_noted : (index sub : ℕ) (whats : List What) → map (note_at index) (map (kept_from sub) whats) ≡ map (note_of index sub) whats
map_noted index sub [] = refl
map_noted index sub (w ∷ ws) = ap (λ l. note_of index sub w ∷ l) (map_noted index sub ws)

pub alike_start : (domain : ℕ) (f : InForce) (run : RunOf) (from to : ℕ) → AreKeptAlike domain f run from to [] []
alike_start domain f run from to = record { notes = λ index i low high. refl; counts = λ i low high. tt }

-- one more that is served, for which this was decided of each record
pub alike_step : (domain : ℕ) (f : InForce) (run : RunOf) (from to : ℕ) (served : List Served) (place : ℕ) (who other : Served) (found : Decision) (each each2 : List KeptBack)
    → AreKeptAlike domain f run from to (take place served) each → place < length served → who ≡ get_or served place other → ((i : ℕ) → from ≤ i → i < to → found ≡ decision_for domain f (record_at run i) who)
    → IsWhatever found → each2 ≡ each ++ map (kept_from who.sub) (kept_whatever found) → AreKeptAlike domain f run from to (take (place + 1) served) each2
alike_step domain f run from to served place who other found each each2 so within at is whatever grown =
    subst (λ l. AreKeptAlike domain f run from to l each2) (sym (more_served served place who other within at)) (record { notes = noted; counts = counted })
  where
    here : (i : ℕ) → from ≤ i → i < to → IsWhatever (decision_for domain f (record_at run i) who)
    here i low high = subst IsWhatever (is i low high) whatever

    noted : (index i : ℕ) → from ≤ i → i < to → map (note_at index) each2 ≡ noted_of_each domain f (take place served ++ who ∷ []) (index, record_at run i)
    noted index i low high =
        let r = record_at run i in
        let more : map (note_at index) (map (kept_from who.sub) (kept_whatever found)) ≡ notes_on domain f (index, r) who =
        map_noted index who.sub (kept_whatever found)
        ∙ ap (λ (d : Decision). map (note_of index who.sub) (kept_whatever d)) (is i low high)
        ∙ ap (map (note_of index who.sub)) (sym (kept_here f.policy.aggregates f.clock r (outcome_by domain f who.name.now r) (here i low high))) in
        ap (map (note_at index)) grown ∙ map-append (note_at index) each (map (kept_from who.sub) (kept_whatever found))
        ∙ ap (λ l. l ++ map (note_at index) (map (kept_from who.sub) (kept_whatever found))) (so.notes index i low high)
        ∙ ap (λ l. noted_of_each domain f (take place served) (index, r) ++ l) (more ∙ sym (append-nil (notes_on domain f (index, r) who)))
        ∙ sym (flat_map-append (notes_on domain f (index, r)) (take place served) (who ∷ []))

    counted : (i : ℕ) → from ≤ i → i < to → AllByRecursion (λ (w : Served). added_by domain f w.name.now (record_at run i) ≡ []) (take place served ++ who ∷ [])
    counted i low high =
        let r = record_at run i in
        all_by_recursion_push (λ (w : Served). added_by domain f w.name.now r ≡ []) (take place served) who (so.counts i low high)
        (ap (map count_of) (counts_nothing f.policy.aggregates f.clock r (outcome_by domain f who.name.now r) (here i low high)))

-- the first record of some, and those behind it
part_front : (from n : ℕ) (run : RunOf) → from < length run.texts → take (suc n) (drop from (run_records run)) ≡ record_at run from ∷ take n (drop (from + 1) (run_records run))
part_front from n run within =
    let rs = run_records run in
    let r = record_at run from in
    let many : length rs ≡ length run.texts = length-map run.texts (kept_record run.template) in
    ap (take (suc n)) (drop-cons rs from r (omega (arith, within, many))
    ∙ ap (λ x. x ∷ drop (suc from) rs) (get_or-map (kept_record run.template) run.texts from [] r within)
    ∙ ap (λ m. r ∷ drop m rs) {x = suc from} {y = from + 1} (omega arith))

stretch_notes : (domain : ℕ) (f : InForce) (served : List Served) (run : RunOf) (each : List KeptBack) (index from n : ℕ) → from + n ≤ length run.texts
    → ((index i : ℕ) → from ≤ i → i < from + n → map (note_at index) each ≡ noted_of_each domain f served (index, record_at run i))
    → notes_of_stretch index n each ≡ flat_map (noted_of_each domain f served) (enumerate_from index (take n (drop from (run_records run))))
stretch_notes domain f served run each index from zero within alike = refl
stretch_notes domain f served run each index from (suc n) within alike =
    let g = noted_of_each domain f served in
    let rest = take n (drop (from + 1) (run_records run)) in
    let behind = stretch_notes domain f served run each (index + 1) (from + 1) n (omega (arith, within)) (λ k i low high. alike k i (omega (arith, low)) (omega (arith, high))) in
    ap (λ l. l ++ notes_of_stretch (suc index) n each) (alike index from (omega arith) (omega arith))
    ∙ ap (λ m. g (index, record_at run from) ++ notes_of_stretch m n each) {x = suc index} {y = index + 1} (omega arith)
    ∙ ap (λ l. g (index, record_at run from) ++ l) behind
    ∙ sym (ap (λ l. flat_map g (enumerate_from index l)) (part_front from n run (omega (arith, within))))

nothing_added : (g : DataRecord → List Count) (run : RunOf) (from n : ℕ) → from + n ≤ length run.texts → ((i : ℕ) → from ≤ i → i < from + n → g (record_at run i) ≡ []) → flat_map g (take n (drop from (run_records run))) ≡ []
nothing_added g run from zero within none = refl
nothing_added g run from (suc n) within none =
    ap (flat_map g) (part_front from n run (omega (arith, within)))
    ∙ ap (λ l. l ++ flat_map g (take n (drop (from + 1) (run_records run)))) (none from (omega arith) (omega arith))
    ∙ nothing_added g run (from + 1) n (omega (arith, within)) (λ i low high. none i (omega (arith, low)) (omega (arith, high)))

same_tallies : (domain : ℕ) (f : InForce) (done : List DataRecord) (served : List Served) (run : RunOf) (from n : ℕ) → from + n ≤ length run.texts
    → ((i : ℕ) → from ≤ i → i < from + n → AllByRecursion (λ (w : Served). added_by domain f w.name.now (record_at run i) ≡ []) served)
    → tallies_of domain f done served ≡ tallies_of domain f (done ++ take n (drop from (run_records run))) served
same_tallies domain f done [] run from n within none = refl
same_tallies domain f done (who ∷ served) run from n within none =
    let g = added_by domain f who.name.now in
    let part = take n (drop from (run_records run)) in
    let same : flat_map g done ≡ flat_map g (done ++ part) =
    sym (flat_map-append g done part ∙ ap (λ l. flat_map g done ++ l) (nothing_added g run from n within (λ i low high. (none i low high).0)) ∙ append-nil (flat_map g done)) in
    ap (λ l. as_share who.sub l ∷ tallies_of domain f done served) same
    ∙ ap (λ l. as_share who.sub (flat_map g (done ++ part)) ∷ l) (same_tallies domain f done served run from n within (λ i low high. (none i low high).1))

-- they are noted at once
pub kept_alike : (t : List Tally) (notes notes2 : KeptNotes) (domain : ℕ) (f : InForce) (index : ℕ) (run : RunOf) (from to : ℕ) (leaders served : List Served) (each : List KeptBack)
    → AreKeptAlike domain f run from to served each → from ≤ to → to ≤ length run.texts → length t ≡ length served → notes2 ≡ and_more notes (notes_of_stretch index (to - from) each)
    → AddsCounts (counted_of t notes) (counted_of t notes2) index (records_between from to run) (audience_of domain f leaders served)
kept_alike t notes notes2 domain f index run from to leaders served each so order within same noted = record {
  tallies = λ done start. start ∙ same_tallies domain f done served run from (to - from) (omega (arith, order, within)) (λ i low high. so.counts i low (omega (arith, high, order)));
  noting = noted ∙ ap (and_more notes) (stretch_notes domain f served run each index from (to - from) (omega (arith, order, within)) (λ k i low high. so.notes k i low (omega (arith, high, order))));
  stay = same;
}

-- ---- records that are counted one after another

pub counted_start : (t : List Tally) (notes : KeptNotes) (domain : ℕ) (f : InForce) (index : ℕ) (run : RunOf) (from : ℕ) (leaders served : List Served) → length t ≡ length served
    → AddsCounts (counted_of t notes) (counted_of t notes) index (records_between from from run) (audience_of domain f leaders served)
counted_start t notes domain f index run from leaders served same =
    let to = audience_of domain f leaders served in
    subst (λ l. AddsCounts (counted_of t notes) (counted_of t notes) index l to) (sym (part_none from from run (omega arith))) (counted_none t notes index to same)

pub counted_step : (a b c : Counted) (domain : ℕ) (f : InForce) (first index : ℕ) (run : RunOf) (from place : ℕ) (leaders served : List Served) (r : DataRecord)
    → AddsCounts a b (first + from) (records_between from place run) (audience_of domain f leaders served) → from ≤ place → place < length run.texts → r ≡ record_at run place → index ≡ first + place
    → AddsCounts b c index (r ∷ []) (audience_of domain f leaders served) → AddsCounts a c (first + from) (records_between from (place + 1) run) (audience_of domain f leaders served)
counted_step a b c domain f first index run from place leaders served r so low within is numbered adds =
    let to = audience_of domain f leaders served in
    let many : length (records_between from place run) ≡ place - from = length-take-le (place - from) (drop from (run_records run)) (omega (arith, low, within, length-drop from (run_records run), length-map run.texts (kept_record run.template))) in
    subst (λ l. AddsCounts a c (first + from) l to) (sym (part_more from place run low within))
    (counted_both a b c (first + from) index (records_between from place run) (record_at run place ∷ []) to so (subst (λ x. AddsCounts b c index (x ∷ []) to) is adds) (omega (arith, numbered, many, low)))
